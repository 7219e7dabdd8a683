-- The activities of the word that are not in the rest were counted. The measure is the rest.
-- Assumes nothing.
use Rattle.cover_choice.proofs.laws.CountingWord.{CountedBut}
use Rattle.cover_choice.proofs.count_word.Given as goal

abbrev pub invariant-loop-rest : goal.invariant-loop-rest
invariant-loop-rest l = CountedBut l.word l.initial.counts l.rest l.counts

abbrev pub decreases-loop-rest : goal.decreases-loop-rest
decreases-loop-rest l = l.rest
