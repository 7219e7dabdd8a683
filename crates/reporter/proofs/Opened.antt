-- One name for all definitions of this layer and of those below it: a proof by computation says
-- `unfolding opened`.
-- Assumes nothing.
use Rattle.report_lines.proofs.Opened.{opened as opened_lines}
use Rattle.reporter.specs.Reporting.{log_report, reporting_refusal, reported, output_after}

unfoldable pub opened : Unit {0}
unfolding log_report reporting_refusal reported output_after opened_lines
opened = tt
