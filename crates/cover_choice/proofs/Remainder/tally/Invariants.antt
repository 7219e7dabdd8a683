-- What was counted is the tally of the words before the index.
-- Assumes nothing.
use Rattle.std.proofs.Common.{take}
use Rattle.cover_choice.specs.Choosing.{Tallied}
use Rattle.cover_choice.proofs.laws.Tallying.{tally}
use Rattle.cover_choice.proofs.Remainder.tally.Given as goal

abbrev pub invariant-loop-word : goal.invariant-loop-word
invariant-loop-word l = Tallied (take l.word-index l.self.words.now) l.self.whole l.self.left (tally l.once l.twice l.thrice)
