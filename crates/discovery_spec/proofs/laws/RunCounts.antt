-- What holds of the counts of a run: a candidate counts as one visit and one replay at most, and a
-- replay as a visit. So with a budget for every candidate and room for every fitting one nothing
-- stops it.
-- Assumes nothing.
use Prim.Native.Nat.{ℕ, suc, ◌+◌, ◌≤◌}
use native.Mathlib.Omega.{arith}
use mathlib.Core.Path.{◌≡◌, refl}
use mathlib.Core.Bool.{Bool, true, false, cond}
use mathlib.Core.List.{List, [], ◌∷◌}
use lib.ListN.{length, length-append}
use Rattle.std.specs.List.{fold}
use Rattle.places.specs.declared.Place.{Place}
use Rattle.places.specs.Places.{word}
use Rattle.replay_spec.specs.declared.Verdict.{Verdict}
use Rattle.discovery_spec.specs.declared.End.TheVariants.{Completed}
use Rattle.discovery_spec.specs.Search.{Capacity, State, Progress, going, stopped, start, visited, replayed_once, with_found, with_rejected, step, search, end_of, state_of}
use Rattle.discovery_spec.specs.TwoRuns.{is_fitting}
use Rattle.discovery_spec.proofs.laws.Outcomes.{ReplayOutcome, spent, list_full, accepted, dropped, cached, Outcome, passed, known, replayed, step_outcome}
use Rattle.discovery_spec.proofs.laws.OneRun.{fitting_among}

-- the counts of a run with this budget after so many candidates
pub record Counted (budget candidates replays visits : ℕ) : Type 0 where
  pub within_budget : replays ≤ budget
  pub replays_visits : replays ≤ visits
  pub visits_candidates : visits ≤ candidates

abbrev CountedRun : Capacity → ℕ → Progress → Type 0
CountedRun room n p = Counted room.budget n (state_of p).replays (state_of p).visits

module _ (verdict : Place → Verdict) (room : Capacity) where
  module _ (n : ℕ) (c : Place) (s : State) (before : Counted room.budget n s.replays s.visits) where
    replayed_counted : {p : Progress} → ReplayOutcome verdict room c s p → CountedRun room (suc n) p
    unfolding state_of visited replayed_once with_found with_rejected
    replayed_counted (spent h) = omega arith
    replayed_counted (list_full h f l) = omega arith
    replayed_counted (accepted h f l) = omega arith
    replayed_counted (dropped h f l) = omega arith
    replayed_counted (cached h f l) = omega arith

    outcome_counted : {p : Progress} → Outcome verdict room c s p → CountedRun room (suc n) p
    unfolding state_of visited
    outcome_counted (passed e) = omega arith
    outcome_counted (known m r) = omega arith
    outcome_counted (replayed m u t) = replayed_counted t

  step_counted : (n : ℕ) (p : Progress) (c : Place) → CountedRun room n p → CountedRun room (suc n) (step verdict room p c)
  unfolding step state_of
  step_counted n (going s) c before = outcome_counted n c s before (step_outcome verdict room c s)
  step_counted n (stopped end s) c before = omega arith

  run_counted : (n : ℕ) (cs : List Place) (p : Progress) → CountedRun room n p → CountedRun room (n + length cs) (fold (step verdict room) p cs)
  run_counted n [] p before = omega arith
  run_counted n (c ∷ cs) p before =
      let later = run_counted (suc n) cs (step verdict room p c) (step_counted n p c before) in
      omega arith

  -- replays are within the budget, and no more than visits, which are no more than candidates
  pub run_counts : (cs : List Place)
      → Counted room.budget (length cs) (state_of (search verdict room cs)).replays (state_of (search verdict room cs)).visits
  unfolding search start state_of
  run_counts cs = let all = run_counted 0 cs (going start) (omega arith) in omega arith

-- a run that goes on with budget and room enough for these candidates
abbrev Ample : (Place → Verdict) → Capacity → List Place → Progress → Type 0
Ample verdict room cs (going s) =
    (s.replays + length cs ≤ room.budget) × (length s.found + length (fitting_among verdict cs) ≤ room.found)
Ample verdict room cs (stopped end s) = ⊥

module _ (verdict : Place → Verdict) (room : Capacity) where
  module _ (c : Place) (cs : List Place) (s : State) (before : Ample verdict room (c ∷ cs) (going s)) where
    room_left : length s.found + length (fitting_among verdict cs) ≤ room.found
    room_left = go (is_fitting (verdict c)) before.1
      where
        go : (b : Bool) → length s.found + length (cond b (c ∷ fitting_among verdict cs) (fitting_among verdict cs)) ≤ room.found
            → length s.found + length (fitting_among verdict cs) ≤ room.found
        go true h = omega arith
        go false h = h

    room_for_it : is_fitting (verdict c) ≡ true → length s.found + suc (length (fitting_among verdict cs)) ≤ room.found
    room_for_it f = rw f at before.1

    replayed_ample : {p : Progress} → ReplayOutcome verdict room c s p → Ample verdict room cs p
    unfolding visited replayed_once with_found with_rejected
    replayed_ample (spent h) = omega (arith, before.0)
    replayed_ample (list_full h f l) = omega (arith, room_for_it f)
    replayed_ample (accepted h f l) = omega (arith, before.0, room_for_it f, length-append s.found (word c ∷ []))
    replayed_ample (dropped h f l) = omega (arith, before.0, room_left)
    replayed_ample (cached h f l) = omega (arith, before.0, room_left)

    outcome_ample : {p : Progress} → Outcome verdict room c s p → Ample verdict room cs p
    unfolding visited
    outcome_ample (passed e) = omega (arith, before.0, room_left)
    outcome_ample (known n r) = omega (arith, before.0, room_left)
    outcome_ample (replayed n u t) = replayed_ample t

  step_ample : (c : Place) (cs : List Place) (p : Progress) → Ample verdict room (c ∷ cs) p → Ample verdict room cs (step verdict room p c)
  unfolding step
  step_ample c cs (going s) before = outcome_ample c cs s before (step_outcome verdict room c s)
  step_ample c cs (stopped end s) before = before

  run_ample : (cs : List Place) (p : Progress) → Ample verdict room cs p → Ample verdict room [] (fold (step verdict room) p cs)
  run_ample [] p before = before
  run_ample (c ∷ cs) p before = run_ample cs (step verdict room p c) (step_ample c cs p before)

  ample_ends : (p : Progress) → Ample verdict room [] p → end_of p ≡ Completed
  unfolding end_of
  ample_ends (going s) before = refl
  ample_ends (stopped end s) before = absurd before

  -- with a budget for every candidate and room for every fitting one a run completes
  pub ample_completes : (cs : List Place) → length (fitting_among verdict cs) ≤ room.found → length cs ≤ room.budget
      → end_of (search verdict room cs) ≡ Completed
  unfolding search start
  ample_completes cs list budget = ample_ends (search verdict room cs) (run_ample cs (going start) (omega arith))
