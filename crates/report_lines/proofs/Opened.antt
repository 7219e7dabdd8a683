-- One name for all definitions of this layer and of those below it: a proof by computation says
-- `unfolding opened`.
-- Assumes nothing.
use Rattle.reporter_spec.proofs.Opened.{opened as opened_report}
use Rattle.report_lines.specs.ProgramLines.{settings_frame_in, run_line}

unfoldable pub opened : Unit {0}
unfolding settings_frame_in run_line opened_report
opened = tt
