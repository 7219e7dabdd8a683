-- One name for all definitions of this layer and of those below it: a proof by computation says
-- `unfolding opened`.
-- Assumes nothing.
use Rattle.candidate_visit.specs.Standing.{state_in, prunes}
use Rattle.rulings.proofs.Opened.{opened as opened_rulings}

unfoldable pub opened : Unit {0}
unfolding state_in prunes opened_rulings
opened = tt
