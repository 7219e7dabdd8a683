-- The second of two runs over the same candidates is ahead of the first: the first cache is full,
-- the second run's cache and pruned candidates cover the first run's, both have found the same, and
-- the second has no more replays and visits. It stays so whatever the two make of a candidate, as
-- long as both go on. The first cache has no room, so the first run never rules more than it did,
-- and prunes only what the second prunes too.
-- Assumes nothing.
use Prim.Native.Nat.{ℕ, ◌≤◌}
use native.Mathlib.Nat.{le_refl}
use native.Mathlib.Omega.{arith}
use mathlib.Core.Path.{◌≡◌, refl, ap}
use mathlib.Core.Bool.{true}
use mathlib.Core.List.{List, [], ◌∷◌, ◌++◌}
use lib.ListN.{length}
use Rattle.places.specs.declared.Place.{Place}
use Rattle.places.specs.Places.{word}
use Rattle.places.proofs.laws.Words.{Storable}
use Rattle.replay_spec.specs.declared.Verdict.{Verdict}
use Rattle.discovery_spec.specs.Rejected.{rejected_word}
use Rattle.discovery_spec.specs.Search.{Capacity, State, visited, replayed_once, with_found, with_rejected, is_pruned}
use Rattle.discovery_spec.proofs.laws.Outcomes.{onward, tried}
use Rattle.discovery_spec.proofs.laws.Soundness.{MonotoneVerdict, Sound, sound_after, sound_cached}
use Rattle.discovery_spec.proofs.laws.Covering.{Covers, covers_self, covers_cached, covers_second, covers_both, covers_first}

-- the state s₂ of the second run is ahead of s₁
pub record Ahead (verdict : Place → Verdict) (first : Capacity) (s₁ s₂ : State) : Type 0 where
  pub full : first.rejected ≤ length s₁.rejected
  pub covers : Covers s₁.rejected s₂.rejected s₁.pruned s₂.pruned
  pub found : s₁.found ≡ s₂.found
  pub replays : s₂.replays ≤ s₁.replays
  pub visits : s₂.visits ≤ s₁.visits
  pub sound : Sound verdict s₂.rejected s₂.pruned

-- it begins with equal states whose cache is full
pub full_ahead : (verdict : Place → Verdict) (first : Capacity) (s : State) → Sound verdict s.rejected s.pruned
    → first.rejected ≤ length s.rejected → Ahead verdict first s s
full_ahead verdict first s sound full =
    record {
      full = full;
      covers = covers_self s.rejected s.pruned;
      found = refl;
      replays = le_refl s.replays;
      visits = le_refl s.visits;
      sound = sound;
    }

module _ (verdict : Place → Verdict) (first : Capacity) (c : Place) {s₁ s₂ : State} (a : Ahead verdict first s₁ s₂) where
  -- the first visits as ruled what the second prunes
  pub known_passed : is_pruned s₂ c ≡ true → Ahead verdict first (onward c (visited s₁)) s₂
  unfolding visited is_pruned
  known_passed e =
      record {
        full = a.full;
        covers = covers_first a.covers c e;
        found = a.found;
        replays = a.replays;
        visits = omega arith;
        sound = a.sound;
      }

  -- both visit it as ruled
  pub known_known : Ahead verdict first (onward c (visited s₁)) (onward c (visited s₂))
  unfolding visited
  known_known =
      record {
        full = a.full;
        covers = covers_both a.covers c;
        found = a.found;
        replays = a.replays;
        visits = omega arith;
        sound = sound_after verdict c a.sound;
      }

  -- the first replays what the second prunes, and drops the word
  pub dropped_passed : Ahead verdict first (tried s₁) s₂
  unfolding visited replayed_once
  dropped_passed =
      record {
        full = a.full;
        covers = a.covers;
        found = a.found;
        replays = omega arith;
        visits = omega arith;
        sound = a.sound;
      }

  -- the first replays what the second visits as ruled, and drops the word
  pub dropped_known : Ahead verdict first (tried s₁) (onward c (visited s₂))
  unfolding visited replayed_once
  dropped_known =
      record {
        full = a.full;
        covers = covers_second a.covers c;
        found = a.found;
        replays = omega arith;
        visits = omega arith;
        sound = sound_after verdict c a.sound;
      }

  -- both replay it and drop the word
  pub dropped_dropped : Ahead verdict first (tried s₁) (tried s₂)
  unfolding visited replayed_once
  dropped_dropped =
      record {
        full = a.full;
        covers = a.covers;
        found = a.found;
        replays = omega arith;
        visits = omega arith;
        sound = a.sound;
      }

  -- both replay it, and only the second has room for the word
  pub dropped_cached : MonotoneVerdict verdict → Storable c
      → Ahead verdict first (tried s₁) (onward c (with_rejected (rejected_word c (verdict c)) (tried s₂)))
  unfolding visited replayed_once with_rejected
  dropped_cached monotone storable =
      record {
        full = a.full;
        covers = covers_second (covers_cached a.covers (rejected_word c (verdict c))) c;
        found = a.found;
        replays = omega arith;
        visits = omega arith;
        sound = sound_after verdict c (sound_cached verdict monotone c storable a.sound);
      }

  -- both replay it and find it
  pub accepted_accepted : Ahead verdict first (with_found (word c) (tried s₁)) (with_found (word c) (tried s₂))
  unfolding visited replayed_once with_found
  accepted_accepted =
      record {
        full = a.full;
        covers = a.covers;
        found = ap (λ (l : List ℕ). l ++ (word c ∷ [])) a.found;
        replays = omega arith;
        visits = omega arith;
        sound = a.sound;
      }
