-- What replaying and judging answer, refusals included. Document 01, "Tokens in one trace" and the
-- order of checks; document 02, c).
-- Assumes nothing.
use Rattle.std.specs.Prelude.{ℕ, List, [], get_or, Result}
use Rattle.limits.specs.declared.Refusal.{Refusal}
use Rattle.limits.specs.Refusals.{answered}
use Rattle.limits.specs.Settings.{bound_fault, bound_and_threshold_fault}
use Rattle.places.specs.declared.Place.{Place}
use Rattle.places.specs.Places.{place_fault}
use Rattle.event_log_spec.specs.Frames.{Frame, count_digits}
use Rattle.event_log_spec.specs.Lines.{frames_with}
use Rattle.event_log_spec.specs.Checking.{log_refusal_with}
use Rattle.replay_spec.specs.declared.Balances.{Balances}
use Rattle.replay_spec.specs.declared.Judgement.{Judgement}
use Rattle.replay_spec.specs.Balance.{least_balance, last_balance}
use Rattle.replay_spec.specs.Judgement.{case_counts, verdict}
use Rattle.replay_spec.specs.Missing.{first_missing, first_underfed}

-- the least and the last balance over a trace, and where the first token is missing
abbrev pub balances : Place → List ℕ → Balances
balances p trace =
    record { least = least_balance p trace; last = last_balance p trace; first_missing = first_missing p trace }

-- the four case counts over some frames, what the place is there at T, and the first line that
-- underfeeds it
abbrev pub judgement : ℕ → List Frame → Place → Judgement
judgement T frames p =
    record { counts = case_counts p frames; verdict = verdict T frames p; first_underfed = first_underfed p frames }

-- with so many digits in a case count
module _ (digits : ℕ) where
  -- the trace of line 0
  unfoldable pub first_trace_with : List ℕ → List ℕ
  first_trace_with text = (get_or (frames_with digits text) 0 (record { cases = 0; trace = [] })).trace

  -- replaying checks every line of the log, and answers the balances of line 0 and where its first
  -- token is missing
  unfoldable pub replayed_with : ℕ → List ℕ → Place → Result Balances Refusal
  replayed_with A text p =
      answered
      (log_refusal_with digits (bound_fault A) (place_fault A 0 p) A text)
      (balances p (first_trace_with text))

  -- judging answers the four case counts, what the place is at T, and the first line that
  -- underfeeds it
  unfoldable pub judged_with : ℕ → ℕ → List ℕ → Place → Result Judgement Refusal
  judged_with A T text p =
      answered
      (log_refusal_with digits (bound_and_threshold_fault A T) (place_fault A 0 p) A text)
      (judgement T (frames_with digits text) p)

-- each of them as a call has it
abbrev pub first_trace : List ℕ → List ℕ
first_trace = first_trace_with count_digits

abbrev pub replayed : ℕ → List ℕ → Place → Result Balances Refusal
replayed = replayed_with count_digits

abbrev pub judged : ℕ → ℕ → List ℕ → Place → Result Judgement Refusal
judged = judged_with count_digits
