-- One name for all definitions of this layer and of those below it: a proof by computation says
-- `unfolding opened`.
-- Assumes nothing.
use Rattle.log_lines.specs.Reading.{count_in, next_phase, in_pairs, activities_in, line_checked}
use Rattle.event_log_spec.proofs.Opened.{opened as opened_log_format}

unfoldable pub opened : Unit {0}
unfolding count_in next_phase in_pairs activities_in line_checked opened_log_format
opened = tt
