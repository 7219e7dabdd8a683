-- A set within another has no code more often, since each of its codes is one of the other's, and a
-- code stands in a set once or not at all. Where a place is at least as light as another, each of
-- its sets is within the other's or has it within itself. Every set is within itself, and what is
-- within a set that is within a third is within the third, so the same goes for being at least as
-- light.
-- Assumes nothing.
use Prim.Native.Nat.{ℕ, ◌≤◌, ◌<◌}
use native.Mathlib.Omega.{arith}
use mathlib.Core.Path.{◌≡◌, refl}
use mathlib.Core.Logic.{◌↔◌}
use mathlib.Core.Bool.{Bool, true, false, and-eq-true_iff}
use borrow.Author.Tests.{eqb-true, eqb-false}
use Rattle.foundation.specs.Lists.{up_to}
use Rattle.std.specs.List.{list_all}
use Rattle.foundation.proofs.laws.Each.{all_filter, all_kept, each_up_to, up_to_each}
use Rattle.limits.specs.Settings.{most_activities}
use Rattle.places.specs.declared.Place.{Place}
use Rattle.places.specs.Sets.{has, member, codes, within}
use Rattle.places.specs.Places.{lighter}

-- all codes of a set pass a test exactly if every code that is in the set does
pub codes_all : (test : ℕ → Bool) (s : ℕ)
    → (list_all test (codes s) ≡ true) ↔ ((a : ℕ) → a < most_activities → member s a ≡ true → test a ≡ true)
unfolding codes
codes_all test s = (
  λ e. up_to_each most_activities (all_filter test (member s) (up_to most_activities) e),
  λ h. all_kept test (member s) (each_up_to most_activities h),
)

-- a set is within another exactly if every code that it has is one of the other
pub within_member : (s t : ℕ)
    → (within s t ≡ true) ↔ ((a : ℕ) → a < most_activities → member s a ≡ true → member t a ≡ true)
unfolding within
within_member s t = codes_all (member t) s

-- a set within another has no code more often
pub within_has : (s t : ℕ) → within s t ≡ true → (a : ℕ) → a < most_activities → has s a ≤ has t a
within_has s t e a l = go (member s a) refl ((within_member s t).0 e a l)
  where
    go : (b : Bool) → member s a ≡ b → (member s a ≡ true → member t a ≡ true) → has s a ≤ has t a
    go true q h = omega (arith, eqb-true (has s a) 1 q, eqb-true (has t a) 1 (h q))
    go false q h = omega (arith, eqb-false (has s a) 1 q)

pub within_refl : (s : ℕ) → within s s ≡ true
within_refl s = (within_member s s).1 (λ a l e. e)

pub within_trans : (r s t : ℕ) → within r s ≡ true → within s t ≡ true → within r t ≡ true
within_trans r s t e f = (within_member r t).1 (λ a l h. (within_member s t).0 f a l ((within_member r s).0 e a l h))

-- the lighter place's inputs are within those of the other, and the other's outputs within its own
pub lighter_sets : (p q : Place) → lighter p q ≡ true
    → (within p.inputs q.inputs ≡ true) × (within q.outputs p.outputs ≡ true)
unfolding lighter
lighter_sets p q = (and-eq-true_iff (within p.inputs q.inputs) (within q.outputs p.outputs)).0

-- and conversely
pub sets_lighter : (p q : Place) → within p.inputs q.inputs ≡ true → within q.outputs p.outputs ≡ true → lighter p q ≡ true
unfolding lighter
sets_lighter p q e f = rw (e, f)

pub lighter_refl : (p : Place) → lighter p p ≡ true
lighter_refl p = sets_lighter p p (within_refl p.inputs) (within_refl p.outputs)

pub lighter_trans : (p q r : Place) → lighter p q ≡ true → lighter q r ≡ true → lighter p r ≡ true
lighter_trans p q r e f =
    let first = lighter_sets p q e in
    let second = lighter_sets q r f in
    sets_lighter
    p
    r
    (within_trans p.inputs q.inputs r.inputs first.0 second.0)
    (within_trans r.outputs q.outputs p.outputs second.1 first.1)
