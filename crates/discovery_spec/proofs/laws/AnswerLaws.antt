-- What holds of the answer of the search call, whatever the log: its end has the number 0, 1 or 2,
-- no more words are found and rejected than there is room for, replays are within the budget and no
-- more than visits, and visits are no more than candidates. An answer as defined has the number and
-- the value of the call's refusal.
-- Assumes nothing.
use Rattle.std.specs.Prelude.{Result, Ok, Err}
use Prim.Native.Nat.{ℕ, ◌≤◌}
use native.Mathlib.Omega.{arith}
use mathlib.Core.Path.{◌≡◌, sym}
use mathlib.Core.List.{List, [], ◌∷◌}
use lib.ListN.{length, length-append}
use Rattle.std.specs.List.{fold}
use Rattle.limits.specs.declared.Refusal.{Refusal}
use Rattle.limits.specs.declared.Settings.{Settings}
use Rattle.places.specs.declared.Place.{Place}
use Rattle.places.specs.Places.{word}
use Rattle.places.specs.Candidates.{candidates}
use Rattle.event_log_spec.specs.Lines.{frames_of}
use Rattle.limits.proofs.laws.AnswerNumbers.{answer_accepted}
use Rattle.replay_spec.specs.declared.Verdict.{Verdict}
use Rattle.replay_spec.specs.Judgement.{verdict}
use Rattle.discovery_spec.specs.declared.End.{End}
use Rattle.discovery_spec.specs.declared.End.TheVariants.{Completed, BudgetSpent, ListFull}
use Rattle.discovery_spec.specs.declared.Run.{Run}
use Rattle.discovery_spec.specs.Rejected.{rejected_word}
use Rattle.discovery_spec.specs.Search.{end_number, Capacity, State, Progress, going, stopped, start, visited, replayed_once, with_found, with_rejected, step, search, state_of}
use Rattle.discovery_spec.specs.Discovery.{run, run_with, summary, run_refusal, discovered, discovered_with, replays_in}
use Rattle.discovery_spec.proofs.laws.Outcomes.{ReplayOutcome, spent, list_full, accepted, dropped, cached, Outcome, passed, known, replayed, step_outcome}
use Rattle.discovery_spec.proofs.laws.RunCounts.{run_counts}

-- every end has one of three numbers
pub end_at_most : (end : End) → end_number end ≤ 2
unfolding end_number
end_at_most Completed = omega arith
end_at_most BudgetSpent = omega arith
end_at_most ListFull = omega arith

-- the words of a run have room
record Fits (room : Capacity) (p : Progress) : Type 0 where
  found_fits : length (state_of p).found ≤ room.found
  rejected_fits : length (state_of p).rejected ≤ room.rejected

module _ (verdict : Place → Verdict) (room : Capacity) where
  module _ (c : Place) (s : State) (before : Fits room (going s)) where
    replayed_fits : {p : Progress} → ReplayOutcome verdict room c s p → Fits room p
    unfolding state_of visited replayed_once with_found with_rejected
    replayed_fits (spent h) = omega (arith, before.found_fits, before.rejected_fits)
    replayed_fits (list_full h f l) = omega (arith, before.found_fits, before.rejected_fits)
    replayed_fits (accepted h f l) = omega (arith, before.rejected_fits, length-append s.found (word c ∷ []))
    replayed_fits (dropped h f l) = omega (arith, before.found_fits, before.rejected_fits)
    replayed_fits (cached h f l) = omega (arith, before.found_fits, length-append s.rejected (rejected_word c (verdict c) ∷ []))

    outcome_fits : {p : Progress} → Outcome verdict room c s p → Fits room p
    unfolding state_of visited
    outcome_fits (passed e) = before
    outcome_fits (known m r) = omega (arith, before.found_fits, before.rejected_fits)
    outcome_fits (replayed m u t) = replayed_fits t

  step_fits : (p : Progress) (c : Place) → Fits room p → Fits room (step verdict room p c)
  unfolding step
  step_fits (going s) c before = outcome_fits c s before (step_outcome verdict room c s)
  step_fits (stopped end s) c before = before

  run_fits : (cs : List Place) (p : Progress) → Fits room p → Fits room (fold (step verdict room) p cs)
  run_fits [] p before = before
  run_fits (c ∷ cs) p before = run_fits cs (step verdict room p c) (step_fits p c before)

  search_fits : (cs : List Place) → Fits room (search verdict room cs)
  unfolding search start state_of
  search_fits cs = run_fits cs (going start) (omega arith)

pub record AnswerWithin (s : Settings) (room : Capacity) (r : Run) : Type 0 where
  pub end_known : end_number r.end ≤ 2
  pub found_fits : r.found ≤ room.found
  pub rejected_fits : r.rejected ≤ room.rejected
  pub within_budget : r.replays ≤ room.budget
  pub replays_visits : r.replays ≤ r.visits
  pub visits_candidates : r.visits ≤ length (candidates s)

pub answer_within : (s : Settings) (text : List ℕ) (room : Capacity) (r : Run) → discovered s text room ≡ Ok r → AnswerWithin s room r
unfolding discovered_with run_with summary
answer_within s text room r e =
    let judged = verdict s.threshold (frames_of text) in
    let fits = search_fits judged room (candidates s) in
    let counts = run_counts judged room (candidates s) in
    rw (sym (answer_accepted (run_refusal s text) (summary (run s text room)) r e).1) (
    record {
      end_known = end_at_most _;
      found_fits = fits.found_fits;
      rejected_fits = fits.rejected_fits;
      within_budget = counts.within_budget;
      replays_visits = counts.replays_visits;
      visits_candidates = counts.visits_candidates;
    }
    )

-- so an answer's replays are within the budget
pub replays_within : (s : Settings) (text : List ℕ) (room : Capacity) (d : Result Run Refusal) → d ≡ discovered s text room
    → replays_in d ≤ room.budget
unfolding replays_in
replays_within s text room (Ok r) e = (answer_within s text room r (sym e)).within_budget
replays_within s text room (Err r) e = omega arith
