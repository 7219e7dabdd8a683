-- What one candidate in its turn makes of a run that goes on, case by case, with the reason for
-- each: the definitions of the search, read from their ends. The cases are all there are, and each
-- of them is what the step then answers.
-- Assumes nothing.
use Prim.Native.Nat.{ℕ, ◌≤◌, ◌<◌}
use mathlib.Core.Path.{◌≡◌, refl, ◌∙◌}
use mathlib.Core.Bool.{Bool, true, false, cond}
use mathlib.Core.List.{List, ◌∷◌}
use lib.Dec.{ltb, leb}
use lib.ListN.{length}
use borrow.Author.Tests.{ltb-true, ltb-false, leb-true, leb-false, lt-ltb, le-ltb, le-leb, lt-leb}
use Rattle.std.specs.List.{list_any}
use Rattle.foundation.proofs.laws.Booleans.{by_test, or_false_parts, impossible}
use Rattle.places.specs.declared.Place.{Place}
use Rattle.places.specs.Places.{word}
use Rattle.replay_spec.specs.declared.Verdict.{Verdict}
use Rattle.replay_spec.specs.declared.Verdict.TheVariants.{Fitting, Underfed, Overfed, Both}
use Rattle.discovery_spec.specs.declared.End.TheVariants.{BudgetSpent, ListFull}
use Rattle.discovery_spec.specs.Rejected.{rejected_word, rules_underfed, ruled_overfed, ruled}
use Rattle.discovery_spec.specs.Search.{Capacity, State, Progress, going, stopped, visited, replayed_once, with_found, with_rejected, with_pruned, proceed, is_pruned, accept, reject, conclude, replay, visit, step}
use Rattle.discovery_spec.specs.TwoRuns.{is_fitting}

-- the pruned candidates after c was visited: c too, where the cache rules it overfed
abbrev pub pruned_after : Place → List ℕ → List Place → List Place
pruned_after c rejected pruned = cond (ruled_overfed rejected c) (c ∷ pruned) pruned

-- the state in which a run goes on from a visited candidate
abbrev pub onward : Place → State → State
onward c s =
    record {
      rejected = s.rejected;
      found = s.found;
      replays = s.replays;
      visits = s.visits;
      pruned = pruned_after c s.rejected s.pruned;
    }

-- the state with one visit and one replay more
abbrev pub tried : State → State
tried s = replayed_once (visited s)

-- what comes of a candidate that is to be replayed: the budget is spent, it fits and finds the list
-- full or not, or it does not fit and finds the cache full or not
pub data ReplayOutcome (verdict : Place → Verdict) (room : Capacity) (c : Place) (s : State) : Progress → Type 0 where
  spent : room.budget ≤ s.replays → ReplayOutcome verdict room c s (stopped BudgetSpent s)
  list_full : s.replays < room.budget → is_fitting (verdict c) ≡ true → room.found ≤ length s.found
      → ReplayOutcome verdict room c s (stopped ListFull (tried s))
  accepted : s.replays < room.budget → is_fitting (verdict c) ≡ true → length s.found < room.found
      → ReplayOutcome verdict room c s (going (with_found (word c) (tried s)))
  dropped : s.replays < room.budget → is_fitting (verdict c) ≡ false → room.rejected ≤ length s.rejected
      → ReplayOutcome verdict room c s (going (tried s))
  cached : s.replays < room.budget → is_fitting (verdict c) ≡ false → length s.rejected < room.rejected
      → ReplayOutcome verdict room c s (going (onward c (with_rejected (rejected_word c (verdict c)) (tried s))))

-- what comes of a candidate: it is pruned, it is visited as one that the cache rules, or it is to
-- be replayed
pub data Outcome (verdict : Place → Verdict) (room : Capacity) (c : Place) (s : State) : Progress → Type 0 where
  passed : is_pruned s c ≡ true → Outcome verdict room c s (going s)
  known : is_pruned s c ≡ false → ruled s.rejected c ≡ true → Outcome verdict room c s (going (onward c (visited s)))
  replayed : {p : Progress} → is_pruned s c ≡ false → ruled s.rejected c ≡ false → ReplayOutcome verdict room c s p
      → Outcome verdict room c s p

-- what the cache does not rule it does not rule overfed
not_overfed : (ws : List ℕ) (c : Place) → ruled ws c ≡ false → ruled_overfed ws c ≡ false
unfolding ruled
not_overfed ws c e = (or_false_parts (list_any (rules_underfed c) ws) (ruled_overfed ws c) e).1

proceed_onward : (c : Place) (s : State) → proceed c s ≡ going (onward c s)
unfolding proceed with_pruned
proceed_onward c s = go (ruled_overfed s.rejected c)
  where
    go : (b : Bool) → going (cond b (with_pruned c s) s) ≡ going (record {
      rejected = s.rejected;
      found = s.found;
      replays = s.replays;
      visits = s.visits;
      pruned = cond b (c ∷ s.pruned) s.pruned;
    })
    go true = refl
    go false = refl

-- after a candidate that the cache does not rule nothing is pruned
proceed_unruled : (c : Place) (s : State) → ruled_overfed s.rejected c ≡ false → proceed c s ≡ going s
unfolding proceed
proceed_unruled c s e = rw e

module _ (room : Capacity) (c : Place) (s : State) where
  conclude_fitting : (v : Verdict) → is_fitting v ≡ true → conclude room v c s ≡ accept room c s
  unfolding conclude is_fitting
  conclude_fitting Fitting e = refl
  conclude_fitting Underfed e = impossible (cc)
  conclude_fitting Overfed e = impossible (cc)
  conclude_fitting Both e = impossible (cc)

  conclude_unfit : (v : Verdict) → is_fitting v ≡ false → conclude room v c s ≡ reject room v c s
  unfolding conclude is_fitting
  conclude_unfit Fitting e = impossible (cc)
  conclude_unfit Underfed e = refl
  conclude_unfit Overfed e = refl
  conclude_unfit Both e = refl

module _ (verdict : Place → Verdict) (room : Capacity) (c : Place) (s : State) where
  unspent : s.replays < room.budget → replay verdict room c s ≡ conclude room (verdict c) c (tried s)
  unfolding replay
  unspent h = rw (lt-leb room.budget s.replays h)

  fitting_replay : s.replays < room.budget → is_fitting (verdict c) ≡ true → replay verdict room c s ≡ accept room c (tried s)
  fitting_replay h f = unspent h ∙ conclude_fitting room c (tried s) (verdict c) f

  unfit_replay : s.replays < room.budget → is_fitting (verdict c) ≡ false
      → replay verdict room c s ≡ reject room (verdict c) c (tried s)
  unfit_replay h f = unspent h ∙ conclude_unfit room c (tried s) (verdict c) f

  -- each case is what a replay answers
  replayed_is : {p : Progress} → ruled_overfed s.rejected c ≡ false → ReplayOutcome verdict room c s p → replay verdict room c s ≡ p
  unfolding replay accept reject visited replayed_once with_found
  replayed_is u (spent h) = rw (le-leb room.budget s.replays h)
  replayed_is u (list_full h f l) = fitting_replay h f ∙ rw (le-ltb (length s.found) room.found l)
  replayed_is u (accepted h f l) =
      fitting_replay h f ∙ rw (lt-ltb (length s.found) room.found l) (proceed_unruled c (with_found (word c) (tried s)) u)
  replayed_is u (dropped h f l) =
      unfit_replay h f ∙ rw (le-ltb (length s.rejected) room.rejected l) (proceed_unruled c (tried s) u)
  replayed_is u (cached h f l) =
      unfit_replay h f
      ∙ rw (lt-ltb (length s.rejected) room.rejected l) (proceed_onward c (with_rejected (rejected_word c (verdict c)) (tried s)))

  -- each case is what the step answers
  pub outcome_is : {p : Progress} → Outcome verdict room c s p → step verdict room (going s) c ≡ p
  unfolding step visit
  outcome_is (passed e) = rw e
  outcome_is (known n r) = rw (n, r) (proceed_onward c (visited s))
  outcome_is (replayed n u t) = rw (n, u) (replayed_is (not_overfed s.rejected c u) t)

  -- one of the cases is there
  some_accepted : s.replays < room.budget → is_fitting (verdict c) ≡ true → (p : Progress) × ReplayOutcome verdict room c s p
  some_accepted h f =
      let n = length s.found in
      by_test
      (ltb n room.found)
      (λ l. (going (with_found (word c) (tried s)), accepted h f (ltb-true n room.found l)))
      (λ l. (stopped ListFull (tried s), list_full h f (ltb-false n room.found l)))

  some_rejected : s.replays < room.budget → is_fitting (verdict c) ≡ false → (p : Progress) × ReplayOutcome verdict room c s p
  some_rejected h f =
      let n = length s.rejected in
      let after = onward c (with_rejected (rejected_word c (verdict c)) (tried s)) in
      by_test
      (ltb n room.rejected)
      (λ l. (going after, cached h f (ltb-true n room.rejected l)))
      (λ l. (going (tried s), dropped h f (ltb-false n room.rejected l)))

  some_replayed : (p : Progress) × ReplayOutcome verdict room c s p
  some_replayed =
      by_test
      (leb room.budget s.replays)
      (λ e. (stopped BudgetSpent s, spent (leb-true room.budget s.replays e)))
      (λ e. within (leb-false room.budget s.replays e))
    where
      within : s.replays < room.budget → (p : Progress) × ReplayOutcome verdict room c s p
      within h = by_test (is_fitting (verdict c)) (some_accepted h) (some_rejected h)

  some_outcome : (p : Progress) × Outcome verdict room c s p
  some_outcome = by_test (is_pruned s c) (λ e. (going s, passed e)) unpruned
    where
      unpruned : is_pruned s c ≡ false → (p : Progress) × Outcome verdict room c s p
      unpruned n =
          by_test
          (ruled s.rejected c)
          (λ r. (going (onward c (visited s)), known n r))
          (λ u. (some_replayed.0, replayed n u some_replayed.1))

  -- what the step answers is one of the cases
  pub step_outcome : Outcome verdict room c s (step verdict room (going s) c)
  step_outcome = rw (outcome_is some_outcome.1) some_outcome.1
