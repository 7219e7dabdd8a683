-- What follows the replay of a candidate, in memory: a fitting one is stored after the found words,
-- where there is room, and else stops the run; the word of another one is stored after the rejected
-- words, where there is room. The candidate was not ruled before, so it is pruned below exactly if
-- its own word was stored and rules it overfed.
-- Assumes nothing.
use Rattle.std.specs.Prelude.{Option, None, Some, Ok, Err}
use Rattle.std.specs.Borrow.{MutBor}
use Prim.Native.Nat.{ℕ, ◌+◌, ◌≤◌, ◌<◌}
use native.Mathlib.Omega.{arith}
use mathlib.Core.Path.{◌≡◌, refl, sym}
use mathlib.Core.Logic.{◌⊎◌, inl, inr}
use mathlib.Core.Bool.{Bool, true, false, cond, ◌||◌}
use mathlib.Core.List.{List}
use lib.ListN.{length, take, set}
use borrow.Author.Tests.{lt-ltb, le-ltb}
use Rattle.std.specs.List.{list_any}
use Rattle.places.specs.declared.Place.{Place}
use Rattle.places.specs.Places.{word}
use Rattle.places.proofs.laws.Words.{Storable}
use Rattle.replay_spec.specs.declared.Verdict.{Verdict}
use Rattle.replay_spec.specs.declared.Verdict.TheVariants.{Fitting, Underfed, Overfed, Both}
use Rattle.rulings.specs.declared.Ruling.{Ruling}
use Rattle.rulings.specs.declared.Ruling.TheVariants.{AsUnderfed, AsOverfed}
use Rattle.rulings.specs.Rulings.{ruling_of}
use Rattle.discovery_spec.specs.declared.End.TheVariants.{ListFull}
use Rattle.discovery_spec.specs.Rejected.{rejected_word, rules_underfed, ruled_overfed, ruled}
use Rattle.discovery_spec.specs.Search.{Capacity, State, going, with_found, with_rejected, with_pruned, proceed, accept, reject, state_of}
use Rattle.discovery_spec.specs.Discovery.{capacity_of}
use Rattle.discovery_spec.proofs.laws.Rulings.{is_overfed, own_overfed, overfed_more}
use Rattle.candidate_visit.specs.declared.Descendants.TheVariants.{Searched, Pruned}
use Rattle.candidate_visit.specs.declared.RunState.{RunState}
use Rattle.candidate_visit.specs.Standing.{state_in, room_in, Holds, Leaves, Turns, prunes}
use Rattle.candidate_visit.proofs.laws.AsTheyAre.{how_many, as_it_is, word_more}

-- what a ruling says: that a word rules the candidate overfed, and that one rules it at all
abbrev pub says_overfed : Option Ruling → Bool
says_overfed None = false
says_overfed (Some AsUnderfed) = false
says_overfed (Some AsOverfed) = true

abbrev pub says_ruled : Option Ruling → Bool
says_ruled None = false
says_ruled (Some AsUnderfed) = true
says_ruled (Some AsOverfed) = true

pub ruling_says : (words : List ℕ) (c : Place) (r : Option Ruling) → ruling_of words c ≡ r
    → (ruled_overfed words c ≡ says_overfed r) × (ruled words c ≡ says_ruled r)
unfolding ruling_of ruled
ruling_says words c r e = rw (sym e) (go (ruled_overfed words c) (list_any (rules_underfed c) words))
  where
    go : (o u : Bool)
        → let r = cond o (Some AsOverfed) (cond u (Some AsUnderfed) None) in (o ≡ says_overfed r) × ((u || o) ≡ says_ruled r)
    go true true = (refl, refl)
    go true false = (refl, refl)
    go false true = (refl, refl)
    go false false = (refl, refl)

-- which verdicts are overfed
pub either_overfed : (v : Verdict) → (v ≡ Overfed) ⊎ (v ≡ Both) → is_overfed v ≡ true
either_overfed v (inl e) = rw e
either_overfed v (inr e) = rw e

pub not_overfed : (v : Verdict) → (v ≡ Fitting) ⊎ (v ≡ Underfed) → is_overfed v ≡ false
not_overfed v (inl e) = rw e
not_overfed v (inr e) = rw e

-- a run with one word more found, and with one more rejected
abbrev pub with_found_word : (w : RunState) (found : MutBor (List ℕ)) → w.rejected_count ≤ length w.rejected.now
    → w.found_count + 1 ≤ length found.now → RunState
with_found_word w found a b =
    record {
      rejected = w.rejected;
      found = found;
      rejected_count = w.rejected_count;
      found_count = w.found_count + 1;
      replays = w.replays;
      visits = w.visits;
      rejected_there = a;
      found_there = b;
    }

abbrev pub with_rejected_word : (w : RunState) (rejected : MutBor (List ℕ)) → w.rejected_count + 1 ≤ length rejected.now
    → w.found_count ≤ length w.found.now → RunState
with_rejected_word w rejected a b =
    record {
      rejected = rejected;
      found = w.found;
      rejected_count = w.rejected_count + 1;
      found_count = w.found_count;
      replays = w.replays;
      visits = w.visits;
      rejected_there = a;
      found_there = b;
    }

module _ (c : Place) (budget : ℕ) (w : RunState) (unruled : ruling_of (state_in w).rejected c ≡ None) where
  abbrev state : State
  state = state_in w

  abbrev room : Capacity
  room = room_in w budget

  no_word_yet : ruled_overfed (take w.rejected_count w.rejected.now) c ≡ false
  unfolding state_in
  no_word_yet = (ruling_says (take w.rejected_count w.rejected.now) c None unruled).0

  -- the buffers as they are
  rejected_held : Holds (take w.rejected_count w.rejected.now) w.rejected w.rejected w.rejected_count
  rejected_held = as_it_is w.rejected w.rejected_there

  found_held : Holds (take w.found_count w.found.now) w.found w.found w.found_count
  found_held = as_it_is w.found w.found_there

  -- a fitting candidate
  pub found_stored : w.found_count < length w.found.now → {found : MutBor (List ℕ)} → found.now ≡ set w.found.now w.found_count (word c)
      → found.ghost_name ≡ w.found.ghost_name → (a : w.rejected_count ≤ length w.rejected.now) (b : w.found_count + 1 ≤ length found.now)
      → Turns (accept room c state) w (Ok Searched) (with_found_word w found a b)
  unfolding accept proceed capacity_of state_in with_found state_of prunes
  found_stored more words same a b =
      rw (lt-ltb (length (take w.found_count w.found.now)) (length w.found.now) (omega (arith, how_many w.found w.found_there)), no_word_yet) (
      record {
        answered = refl;
        leaves =
            record {
              replays = refl;
              visits = refl;
              rejected = rejected_held;
              found = word_more w.found w.found_there (word c) more words same;
            };
      }
      )

  pub list_full : length w.found.now ≤ w.found_count → Turns (accept room c state) w (Err ListFull) w
  unfolding accept capacity_of state_in state_of
  list_full full =
      rw (le-ltb (length (take w.found_count w.found.now)) (length w.found.now) (omega (arith, how_many w.found w.found_there))) (
      record {
        answered = refl;
        leaves = record { replays = refl; visits = refl; rejected = rejected_held; found = found_held };
      }
      )

  -- another candidate
  module _ (v : Verdict) where
    abbrev stored : State
    stored = with_rejected (rejected_word c v) state

    pub word_stored : {overfed : Bool} → is_overfed v ≡ overfed → Storable c → w.rejected_count < length w.rejected.now
        → {rejected : MutBor (List ℕ)} → rejected.now ≡ set w.rejected.now w.rejected_count (rejected_word c v)
        → rejected.ghost_name ≡ w.rejected.ghost_name
        → (a : w.rejected_count + 1 ≤ length rejected.now) (b : w.found_count ≤ length w.found.now)
        → Turns (reject room v c state) w (Ok (cond overfed Pruned Searched)) (with_rejected_word w rejected a b)
    unfolding reject proceed capacity_of state_in with_rejected with_pruned state_of prunes
    word_stored {overfed} e storable more {rejected} words same a b =
        let words_before = take w.rejected_count w.rejected.now in
        rw (
          lt-ltb (length words_before) (length w.rejected.now) (omega (arith, how_many w.rejected w.rejected_there)),
          overfed_more words_before (rejected_word c v) c,
          own_overfed c v storable,
          e,
          no_word_yet,
        )
        (go overfed)
      where
        left : Leaves (going stored) w (with_rejected_word w rejected a b)
        left =
            record {
              replays = refl;
              visits = refl;
              rejected = word_more w.rejected w.rejected_there (rejected_word c v) more words same;
              found = found_held;
            }

        go : (o : Bool)
            → Turns (going (cond o (with_pruned c stored) stored)) w (Ok (cond o Pruned Searched)) (with_rejected_word w rejected a b)
        go true = record { answered = refl; leaves = record { replays = refl; visits = refl; rejected = left.rejected; found = found_held } }
        go false = record { answered = refl; leaves = left }

    pub word_dropped : length w.rejected.now ≤ w.rejected_count → Turns (reject room v c state) w (Ok Searched) w
    unfolding reject proceed capacity_of state_in state_of prunes
    word_dropped full =
        rw (
          le-ltb (length (take w.rejected_count w.rejected.now)) (length w.rejected.now) (omega (arith, how_many w.rejected w.rejected_there)),
          no_word_yet,
        )
        (
        record {
          answered = refl;
          leaves = record { replays = refl; visits = refl; rejected = rejected_held; found = found_held };
        }
        )
