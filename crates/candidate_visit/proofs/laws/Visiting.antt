-- A candidate that is not pruned, in memory: one that a word rules is counted as visited, and
-- pruned below where the ruling is overfed; one that none rules stops the run where the budget is
-- spent, and else is counted as visited and replayed, which leaves the rest to what follows a
-- replay.
-- Assumes nothing.
use Rattle.std.specs.Prelude.{Option, None, Result, Ok, Err}
use Prim.Native.Nat.{ℕ, ◌+◌, ◌≤◌, ◌<◌}
use mathlib.Core.Path.{◌≡◌, refl, sym, ◌∙◌}
use mathlib.Core.Bool.{Bool, true, false, cond}
use mathlib.Core.List.{List}
use lib.ListN.{length, take}
use borrow.Author.Tests.{le-leb, lt-leb}
use Rattle.places.specs.declared.Place.{Place}
use Rattle.replay_spec.specs.declared.Verdict.{Verdict}
use Rattle.replay_spec.specs.declared.Verdict.TheVariants.{Fitting, Underfed, Overfed, Both}
use Rattle.rulings.specs.declared.Ruling.{Ruling}
use Rattle.rulings.specs.Rulings.{ruling_of}
use Rattle.discovery_spec.specs.declared.End.{End}
use Rattle.discovery_spec.specs.declared.End.TheVariants.{BudgetSpent}
use Rattle.discovery_spec.specs.Search.{State, Progress, going, visited, replayed_once, with_pruned, proceed, accept, reject, conclude, replay, visit, state_of}
use Rattle.discovery_spec.specs.Discovery.{capacity_of}
use Rattle.candidate_visit.specs.declared.Descendants.{Descendants}
use Rattle.candidate_visit.specs.declared.Descendants.TheVariants.{Searched, Pruned}
use Rattle.candidate_visit.specs.declared.RunState.{RunState}
use Rattle.candidate_visit.specs.Standing.{state_in, room_in, Leaves, Turns, prunes}
use Rattle.candidate_visit.proofs.laws.AsTheyAre.{as_it_is}
use Rattle.candidate_visit.proofs.laws.Recording.{says_overfed, says_ruled, ruling_says}

-- a run with further counts, and the same buffers
abbrev pub counting : (w : RunState) → ℕ → ℕ → w.rejected_count ≤ length w.rejected.now → w.found_count ≤ length w.found.now → RunState
counting w replays visits a b =
    record {
      rejected = w.rejected;
      found = w.found;
      rejected_count = w.rejected_count;
      found_count = w.found_count;
      replays = replays;
      visits = visits;
      rejected_there = a;
      found_there = b;
    }

module _ (w : RunState) (a : w.rejected_count ≤ length w.rejected.now) (b : w.found_count ≤ length w.found.now) where
  -- what it leaves is left from the run itself
  pub counted_on : {replays visits : ℕ} {p : Progress} {answer : Result Descendants End} {after : RunState}
      → Turns p (counting w replays visits a b) answer after → Turns p w answer after
  counted_on t =
      let l = t.leaves in
      record {
        answered = t.answered;
        leaves = record { replays = l.replays; visits = l.visits; rejected = l.rejected; found = l.found };
      }

  -- what counting alone leaves
  counted : {p : Progress} → (state_of p).rejected ≡ take w.rejected_count w.rejected.now → (state_of p).found ≡ take w.found_count w.found.now
      → Leaves p w (counting w (state_of p).replays (state_of p).visits a b)
  counted e f =
      record {
        replays = refl;
        visits = refl;
        rejected = rw e (as_it_is w.rejected w.rejected_there);
        found = rw f (as_it_is w.found w.found_there);
      }

-- the words of a run rule a candidate as its state does
pub ruled_by_words : (c : Place) (w : RunState) {words : List ℕ} {r : Option Ruling} → words ≡ take w.rejected_count w.rejected.now
    → r ≡ ruling_of words c → ruling_of (state_in w).rejected c ≡ r
unfolding state_in
ruled_by_words c w same e = rw (e, same)

module _ (verdict : Place → Verdict) (budget : ℕ) (c : Place) (w : RunState) where
  abbrev state : State
  state = state_in w

  -- a word rules the candidate
  pub skipped : (r : Option Ruling) → ruling_of state.rejected c ≡ r → says_ruled r ≡ true
      → (a : w.rejected_count ≤ length w.rejected.now) (b : w.found_count ≤ length w.found.now)
      → Turns (visit verdict (room_in w budget) c state) w (Ok (cond (says_overfed r) Pruned Searched)) (counting w w.replays (w.visits + 1) a b)
  unfolding visit proceed state_in visited with_pruned prunes state_of
  skipped r e ruled a b =
      let says = ruling_says (take w.rejected_count w.rejected.now) c r e in
      rw (says.1 ∙ ruled, says.0) (go (says_overfed r))
    where
      go : (o : Bool)
          → Turns (going (cond o (with_pruned c (visited state)) (visited state))) w (Ok (cond o Pruned Searched))
          (counting w w.replays (w.visits + 1) a b)
      go true = record { answered = refl; leaves = counted w _ _ refl refl }
      go false = record { answered = refl; leaves = counted w _ _ refl refl }

  -- none does
  pub not_skipped : ruling_of state.rejected c ≡ None → visit verdict (room_in w budget) c state ≡ replay verdict (room_in w budget) c state
  unfolding visit state_in
  not_skipped unruled = rw ((ruling_says (take w.rejected_count w.rejected.now) c None unruled).1)

  -- the budget is spent
  pub budget_spent : budget ≤ w.replays → Turns (replay verdict (room_in w budget) c state) w (Err BudgetSpent) w
  unfolding replay state_in capacity_of state_of
  budget_spent spent =
      rw (le-leb budget w.replays spent) (
      record {
        answered = refl;
        leaves = counted w _ _ refl refl;
      }
      )

  -- and no word rules the candidate: its turn stops the run as it is
  pub unruled_spent : ruling_of state.rejected c ≡ None → budget ≤ w.replays → Turns (visit verdict (room_in w budget) c state) w (Err BudgetSpent) w
  unruled_spent unruled spent = rw (not_skipped unruled) (budget_spent spent)

  -- the candidate is replayed
  module _
      (left : w.replays < budget)
      (a : w.rejected_count ≤ length w.rejected.now)
      (b : w.found_count ≤ length w.found.now)
    where
      abbrev tried : RunState
      tried = counting w (w.replays + 1) (w.visits + 1) a b

      pub replayed_fitting : Fitting ≡ verdict c → {answer : Result Descendants End} {after : RunState}
          → Turns (accept (room_in tried budget) c (state_in tried)) tried answer after
          → Turns (replay verdict (room_in w budget) c state) w answer after
      unfolding replay conclude state_in capacity_of visited replayed_once
      replayed_fitting e turn = rw (lt-leb budget w.replays left, sym e) (counted_on w a b turn)

      pub replayed_other : (v : Verdict) → (v ≡ Fitting → ⊥) → v ≡ verdict c → {answer : Result Descendants End} {after : RunState}
          → Turns (reject (room_in tried budget) v c (state_in tried)) tried answer after
          → Turns (replay verdict (room_in w budget) c state) w answer after
      unfolding replay conclude state_in capacity_of visited replayed_once
      replayed_other v other e turn = rw (lt-leb budget w.replays left, sym e, go v other) (counted_on w a b turn)
        where
          go : (v : Verdict) → (v ≡ Fitting → ⊥)
              → conclude (room_in w budget) v c (state_in tried) ≡ reject (room_in tried budget) v c (state_in tried)
          go Fitting other = absurd (other refl)
          go Underfed other = refl
          go Overfed other = refl
          go Both other = refl
