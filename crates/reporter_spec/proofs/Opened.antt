-- One name for all definitions of this layer and of those below it: a proof by computation says
-- `unfolding opened`.
-- Assumes nothing.
use Rattle.reporter_spec.specs.Program.{capacity, settings_malformed, settings_in, log_in, program_refusal_with, refusal_line, result_line, reported_words, report, placelist_with}
use Rattle.discovery_spec.proofs.Opened.{opened as opened_search}
use Rattle.reduction_spec.proofs.Opened.{opened as opened_reduction}
use Rattle.writer.proofs.Opened.{opened as opened_writing}

unfoldable pub opened : Unit {0}
unfolding capacity settings_malformed settings_in log_in program_refusal_with refusal_line result_line reported_words report placelist_with opened_search opened_reduction opened_writing
opened = tt
