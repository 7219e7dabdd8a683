-- One name for all definitions of this layer and of those below it: a proof by computation says
-- `unfolding opened`.
-- Assumes nothing.
use Rattle.rulings.specs.Rulings.{ruling_of}
use Rattle.discovery_spec.proofs.Opened.{opened as opened_search}

unfoldable pub opened : Unit {0}
unfolding ruling_of opened_search
opened = tt
