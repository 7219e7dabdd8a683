-- One name for all definitions of this layer and of those below it: a proof by computation says
-- `unfolding opened`.
-- Assumes nothing.
use Rattle.padded_logs.specs.Padding.{padded, padded_input}
use Rattle.padded_logs.specs.NeverMisread.{NeverMisread}
use Rattle.listing.proofs.Opened.{opened as opened_listing}
use Rattle.reporter_spec.proofs.Opened.{opened as opened_program}

unfoldable pub opened : Unit {0}
unfolding padded padded_input NeverMisread opened_listing opened_program
opened = tt
