-- The words before the index were counted.
-- Assumes nothing.
use Rattle.cover_choice.proofs.laws.CountingChoices.{Counted}
use Rattle.cover_choice.proofs.Remainder.count_choices.Given as goal

abbrev pub invariant-loop-word : goal.invariant-loop-word
invariant-loop-word l = Counted l.self.words.now l.self.whole l.self.left l.counts l.word-index
