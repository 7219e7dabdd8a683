-- What every candidate does to a run, and so every list of candidates: words are only added, a
-- candidate counts as one visit at most, a run that stops did not complete, and at most the
-- candidate itself is added to the pruned.
-- Assumes nothing.
use Prim.Native.Nat.{ℕ, ◌+◌, ◌≤◌}
use native.Mathlib.Omega.{arith}
use native.Mathlib.Nat.{le_refl, le_trans}
use mathlib.Core.Path.{◌≡◌, refl}
use mathlib.Core.Logic.{◌⊎◌, inl, inr}
use mathlib.Core.Bool.{Bool, true, false}
use mathlib.Core.List.{List, [], ◌∷◌}
use lib.ListN.{length, length-append}
use Rattle.foundation.specs.Lists.{Each, each_nil, each_cons}
use Rattle.std.specs.List.{fold}
use Rattle.places.specs.declared.Place.{Place}
use Rattle.places.specs.Places.{word}
use Rattle.replay_spec.specs.declared.Verdict.{Verdict}
use Rattle.discovery_spec.specs.declared.End.TheVariants.{Completed}
use Rattle.discovery_spec.specs.Rejected.{rejected_word, ruled_overfed}
use Rattle.discovery_spec.specs.Search.{Capacity, State, Progress, going, stopped, visited, replayed_once, with_found, with_rejected, step, state_of}
use Rattle.discovery_spec.proofs.laws.Outcomes.{pruned_after, onward, ReplayOutcome, spent, list_full, accepted, dropped, cached, Outcome, passed, known, replayed, step_outcome}

-- a run that stopped did not complete
abbrev pub EndGiven : Progress → Type 0
EndGiven (going s) = Unit {0}
EndGiven (stopped end s) = end ≡ Completed → ⊥

-- the words that a run has are no fewer than those of a state
pub record Grown (s : State) (p : Progress) : Type 0 where
  pub rejected : length s.rejected ≤ length (state_of p).rejected
  pub found : length s.found ≤ length (state_of p).found

-- the run goes on with the candidate c among the pruned, besides these
pub record PrunedWith (c : Place) (before : List Place) (p : Progress) : Type 0 where
  pub state : State
  pub on : p ≡ going state
  pub pruned : state.pruned ≡ c ∷ before

-- what a candidate's turn makes of a state
pub record Stepped (c : Place) (s : State) (p : Progress) : Type 0 where
  pub grown : Grown s p
  pub visits : (state_of p).visits ≤ s.visits + 1
  pub end_given : EndGiven p
  pub pruned : ((state_of p).pruned ≡ s.pruned) ⊎ PrunedWith c s.pruned p

pruned_onward : (c : Place) (s : State)
    → ((state_of (going (onward c s))).pruned ≡ s.pruned) ⊎ PrunedWith c s.pruned (going (onward c s))
unfolding state_of
pruned_onward c s = go (ruled_overfed s.rejected c) refl
  where
    go : (b : Bool) → ruled_overfed s.rejected c ≡ b
        → (pruned_after c s.rejected s.pruned ≡ s.pruned) ⊎ PrunedWith c s.pruned (going (onward c s))
    go true e = inr (record { state = onward c s; on = refl; pruned = rw e })
    go false e = inl (rw e)

module _ (verdict : Place → Verdict) (room : Capacity) (c : Place) (s : State) where
  replayed_stepped : {p : Progress} → ReplayOutcome verdict room c s p → Stepped c s p
  unfolding state_of visited replayed_once with_found with_rejected
  replayed_stepped (spent h) = record { grown = omega arith; visits = omega arith; end_given = λ e. cc; pruned = inl refl }
  replayed_stepped (list_full h f l) = record { grown = omega arith; visits = omega arith; end_given = λ e. cc; pruned = inl refl }
  replayed_stepped (accepted h f l) = record { grown = omega (arith, length-append s.found (word c ∷ [])); visits = omega arith; end_given = tt; pruned = inl refl }
  replayed_stepped (dropped h f l) = record { grown = omega arith; visits = omega arith; end_given = tt; pruned = inl refl }
  replayed_stepped (cached h f l) =
      record {
        grown = omega (arith, length-append s.rejected (rejected_word c (verdict c) ∷ []));
        visits = omega arith;
        end_given = tt;
        pruned = pruned_onward c (with_rejected (rejected_word c (verdict c)) (replayed_once (visited s)));
      }

  outcome_stepped : {p : Progress} → Outcome verdict room c s p → Stepped c s p
  unfolding state_of visited
  outcome_stepped (passed e) = record { grown = omega arith; visits = omega arith; end_given = tt; pruned = inl refl }
  outcome_stepped (known m r) = record { grown = omega arith; visits = omega arith; end_given = tt; pruned = pruned_onward c (visited s) }
  outcome_stepped (replayed m u t) = replayed_stepped t

  pub step_made : Stepped c s (step verdict room (going s) c)
  step_made = outcome_stepped (step_outcome verdict room c s)

module _ (verdict : Place → Verdict) (room : Capacity) where
  step_grown : (p : Progress) (c : Place) → Grown (state_of p) (step verdict room p c)
  unfolding step state_of
  step_grown (going s) c = (step_made verdict room c s).grown
  step_grown (stopped end s) c = record { rejected = le_refl _; found = le_refl _ }

  -- over a list of candidates words are only added
  pub run_grown : (cs : List Place) (p : Progress) → Grown (state_of p) (fold (step verdict room) p cs)
  run_grown [] p = record { rejected = le_refl _; found = le_refl _ }
  run_grown (c ∷ cs) p =
      let here = step_grown p c in
      let later = run_grown cs (step verdict room p c) in
      record { rejected = le_trans here.rejected later.rejected; found = le_trans here.found later.found }

  step_visits : (p : Progress) (c : Place) → (state_of (step verdict room p c)).visits ≤ (state_of p).visits + 1
  unfolding step state_of
  step_visits (going s) c = (step_made verdict room c s).visits
  step_visits (stopped end s) c = omega arith

  -- there are no more visits than candidates
  pub run_visits : (cs : List Place) (p : Progress) → (state_of (fold (step verdict room) p cs)).visits ≤ (state_of p).visits + length cs
  run_visits [] p = omega arith
  run_visits (c ∷ cs) p = omega (arith, step_visits p c, run_visits cs (step verdict room p c))

  step_end_given : (p : Progress) (c : Place) → EndGiven p → EndGiven (step verdict room p c)
  unfolding step
  step_end_given (going s) c given = (step_made verdict room c s).end_given
  step_end_given (stopped end s) c given = given

  -- a stop has its end
  pub run_end_given : (cs : List Place) (p : Progress) → EndGiven p → EndGiven (fold (step verdict room) p cs)
  run_end_given [] p given = given
  run_end_given (c ∷ cs) p given = run_end_given cs (step verdict room p c) (step_end_given p c given)

  step_outputs : (o : ℕ) (p : Progress) (c : Place) → c.outputs ≡ o → Each (λ (d : Place). d.outputs ≡ o) (state_of p).pruned
      → Each (λ (d : Place). d.outputs ≡ o) (state_of (step verdict room p c)).pruned
  unfolding step state_of
  step_outputs o (stopped end s) c here before = before
  step_outputs o (going s) c here before = go (step_made verdict room c s).pruned
    where
      go : ((state_of (step verdict room (going s) c)).pruned ≡ s.pruned) ⊎ PrunedWith c s.pruned (step verdict room (going s) c)
          → Each (λ (d : Place). d.outputs ≡ o) (state_of (step verdict room (going s) c)).pruned
      go (inl e) = rw e before
      go (inr w) = rw (w.on, w.pruned) (each_cons here before)

  -- candidates of the same outputs add none of other outputs to the pruned
  pub run_outputs : (o : ℕ) {cs : List Place} (p : Progress) → Each (λ (c : Place). c.outputs ≡ o) cs
      → Each (λ (d : Place). d.outputs ≡ o) (state_of p).pruned
      → Each (λ (d : Place). d.outputs ≡ o) (state_of (fold (step verdict room) p cs)).pruned
  run_outputs o p each_nil before = before
  run_outputs o p (each_cons {x = c} here later) before =
      run_outputs o (step verdict room p c) later (step_outputs o p c here before)
