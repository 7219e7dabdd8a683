-- One name for all definitions of this layer and of those below it: a proof by computation says
-- `unfolding opened`.
-- Assumes nothing.
use Rattle.event_log_spec.proofs.Opened.{opened as opened_log}
use Rattle.variants_spec.specs.Variants.{occurrences, tally, same_variant, frames_like, is_first, variant_of, variants}
use Rattle.variants_spec.specs.Summary.{leads, summary, summary_refusal, summarized, summary_after}
use Rattle.variants_spec.specs.SummaryOf.{entries_with}

unfoldable pub opened : Unit {0}
unfolding occurrences tally same_variant frames_like is_first variant_of variants leads summary summary_refusal summarized summary_after entries_with opened_log
opened = tt
