-- One name for all definitions of this layer and of those below it: a proof by computation says
-- `unfolding opened`.
-- Assumes nothing.
use Rattle.replay_spec.specs.Balance.{count, balance_at, least_of, least_balance, last_balance, underfeeds, overfeeds}
use Rattle.replay_spec.specs.Judgement.{cases_where, case_counts, underfed_cases, overfed_cases, exceeds, verdict_of, verdict, mark}
use Rattle.replay_spec.specs.Missing.{missing_at, first_missing, first_underfed, missing_index, line_index, event_index}
use Rattle.replay_spec.specs.Answers.{first_trace_with, replayed_with, judged_with}
use Rattle.places.proofs.Opened.{opened as opened_places}
use Rattle.event_log_spec.proofs.Opened.{opened as opened_log_format}

unfoldable pub opened : Unit {0}
unfolding count balance_at least_of least_balance last_balance underfeeds overfeeds cases_where case_counts underfed_cases overfed_cases exceeds verdict_of verdict mark missing_at first_missing first_underfed missing_index line_index event_index first_trace_with replayed_with judged_with opened_places opened_log_format
opened = tt
