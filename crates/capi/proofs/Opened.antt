-- One name for all definitions of this layer and of those below it: a proof by computation says
-- `unfolding opened`.
-- Assumes nothing.
use Rattle.report_lines.proofs.Opened.{opened as opened_report}
use Rattle.variants_spec.proofs.Opened.{opened as opened_variants}
use Rattle.reporter.specs.Reporting.{log_report, reporting_refusal, reported, output_after}
use Rattle.capi.specs.Results.{sizes_after, least_after, last_after, counts_after, verdict_after, run_after, count_after}

unfoldable pub opened : Unit {0}
unfolding sizes_after least_after last_after counts_after verdict_after run_after count_after log_report reporting_refusal reported output_after opened_report opened_variants
opened = tt
