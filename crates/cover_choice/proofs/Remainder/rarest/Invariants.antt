-- Of the activities before this one none that is left has fewer choices.
-- Assumes nothing.
use Rattle.cover_choice.proofs.laws.Rarity.{Sought}
use Rattle.cover_choice.proofs.Remainder.rarest.Given as goal

abbrev pub invariant-loop-activity : goal.invariant-loop-activity
invariant-loop-activity l = Sought l.self.words.now l.self.whole l.self.left l.rarest l.fewest l.activity
