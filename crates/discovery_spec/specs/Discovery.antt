-- What the search call answers and what it leaves in the two buffers that it is lent, refusals
-- included. Document 01, "The walk".
-- Assumes nothing.
use Rattle.std.specs.Prelude.{ℕ, List, length, Option, None, Result, Ok, Err}
use Rattle.foundation.specs.Buffers.{overwrite}
use Rattle.limits.specs.declared.Refusal.{Refusal}
use Rattle.limits.specs.declared.Settings.{Settings}
use Rattle.limits.specs.Refusals.{answer, answered}
use Rattle.limits.specs.Settings.{settings_fault}
use Rattle.places.specs.Candidates.{candidates}
use Rattle.event_log_spec.specs.Frames.{count_digits}
use Rattle.event_log_spec.specs.Lines.{frames_with}
use Rattle.event_log_spec.specs.Checking.{log_refusal_with}
use Rattle.replay_spec.specs.Judgement.{verdict}
use Rattle.discovery_spec.specs.declared.Run.{Run}
use Rattle.discovery_spec.specs.Search.{Capacity, holding, Progress, search, end_of, state_of}

-- what the answer says of a run: its end, the words found (listed) and rejected (shelved), the
-- replays and the visits
unfoldable pub summary : Progress → Run
summary p =
    record {
      end = end_of p;
      found = length (state_of p).found;
      rejected = length (state_of p).rejected;
      replays = (state_of p).replays;
      visits = (state_of p).visits;
    }

-- the candidates that an answer says were replayed: none after a refusal
unfoldable pub replays_in : Result Run Refusal → ℕ
replays_in (Ok run) = run.replays
replays_in (Err r) = 0

-- the capacity that the two buffers and the budget give a run: as much room as the buffers are
-- long, whatever they hold
unfoldable pub capacity_of : List ℕ → List ℕ → ℕ → Capacity
capacity_of rejected found budget = holding (length rejected) (length found) budget

-- with so many digits in a case count
module _ (digits : ℕ) where
  -- a run on a log under settings
  unfoldable pub run_with : Settings → List ℕ → Capacity → Progress
  run_with s text room = search (verdict s.threshold (frames_with digits text)) room (candidates s)

  -- the call's refusal: 1, then 6 and the text; its buffers may have any length
  unfoldable pub run_refusal_with : Settings → List ℕ → Option Refusal
  run_refusal_with s text = log_refusal_with digits (settings_fault s) None s.activities text

  -- the call's answer
  unfoldable pub discovered_with : Settings → List ℕ → Capacity → Result Run Refusal
  discovered_with s text room = answered (run_refusal_with s text) (summary (run_with s text room))

  -- what the list holds on return, for a cache and a list that held these words: the words found,
  -- then its old tail; after a refusal, what it held
  unfoldable pub found_after_with : Settings → List ℕ → List ℕ → List ℕ → ℕ → List ℕ
  found_after_with s text rejected found budget =
      answer
      (λ (r : Refusal). found)
      (run_refusal_with s text)
      (overwrite (state_of (run_with s text (capacity_of rejected found budget))).found found)

  -- the same of the cache and the words rejected
  unfoldable pub rejected_after_with : Settings → List ℕ → List ℕ → List ℕ → ℕ → List ℕ
  rejected_after_with s text rejected found budget =
      answer
      (λ (r : Refusal). rejected)
      (run_refusal_with s text)
      (overwrite (state_of (run_with s text (capacity_of rejected found budget))).rejected rejected)

-- each of them as the call has it
abbrev pub run : Settings → List ℕ → Capacity → Progress
run = run_with count_digits

abbrev pub run_refusal : Settings → List ℕ → Option Refusal
run_refusal = run_refusal_with count_digits

abbrev pub discovered : Settings → List ℕ → Capacity → Result Run Refusal
discovered = discovered_with count_digits

abbrev pub found_after : Settings → List ℕ → List ℕ → List ℕ → ℕ → List ℕ
found_after = found_after_with count_digits

abbrev pub rejected_after : Settings → List ℕ → List ℕ → List ℕ → ℕ → List ℕ
rejected_after = rejected_after_with count_digits
