-- A set names no code of A or more exactly when nothing is left of it after a shift by A; a 16-bit
-- set names none of 16 or more. A place that has inputs and outputs is under A exactly when both
-- sets are; a place under A is under every wider bound.
-- Assumes nothing.
use Prim.Native.Nat.{ℕ, ◌<◌, ◌≤◌, ◌/◌, ◌^◌}
use mathlib.Core.Path.{◌≡◌}
use mathlib.Core.Bool.{true, false, ◌&&◌, and-false, and-eq-true_iff}
use native.Mathlib.Omega.{arith}
use native.Mathlib.Nat.{div-eq_of_lt, div-lt_iff_lt-mul, one-mul, lt_of_lt_of_le}
use borrow.Author.Tests.{lt-ltb, ltb-true, ltb-false, eq-eqb, ne_eqb}
use lib.Dec.{eqb, ltb}
use lib.Pow.{pow_pos, pow_mono}
use Rattle.foundation.proofs.laws.Booleans.{by_test}
use Rattle.places.specs.declared.Place.{Place}
use Rattle.places.specs.Places.{through, below, place_under}

pub below_sixteen : (A s : ℕ) → 16 ≤ A → s < 2 ^ 16 → below A s ≡ true
unfolding below
below_sixteen A s wide small = lt-ltb s (2 ^ A) (lt_of_lt_of_le small (pow_mono wide))

below_wider : (A B s : ℕ) → A ≤ B → below A s ≡ true → below B s ≡ true
unfolding below
below_wider A B s wide e = lt-ltb s (2 ^ B) (lt_of_lt_of_le (ltb-true s (2 ^ A) e) (pow_mono wide))

-- nothing is left of it: it is below the power
left_nothing : (A s : ℕ) → s / 2 ^ A < 1 → s < 2 ^ A
left_nothing A s h = rw one-mul at ((div-lt_iff_lt-mul (pow_pos A)).0 h)

pub below_shift : (A s : ℕ) → eqb (s / 2 ^ A) 0 ≡ below A s
unfolding below
below_shift A s =
    by_test
    (ltb s (2 ^ A))
    (λ e. rw (e, div-eq_of_lt (ltb-true s (2 ^ A) e)))
    (λ e. rw e (ne_eqb (s / 2 ^ A) 0 (λ (z : s / 2 ^ A ≡ 0). omega (arith, left_nothing A s (omega arith), ltb-false s (2 ^ A) e))))

-- a place under a bound, by its two sets
module _ (A : ℕ) (p : Place) where
  pub no_inputs : p.inputs ≡ 0 → place_under A p ≡ false
  unfolding through place_under
  no_inputs e = rw (eq-eqb p.inputs 0 e)

  pub no_outputs : p.outputs ≡ 0 → place_under A p ≡ false
  unfolding through place_under
  no_outputs e = rw (eq-eqb p.outputs 0 e, and-false)

-- a place under a bound is under a wider one
pub under_wider : (A B : ℕ) (p : Place) → A ≤ B → place_under A p ≡ true → place_under B p ≡ true
unfolding place_under
under_wider A B p wide e =
    let outer = (and-eq-true_iff (through p && below A p.inputs) (below A p.outputs)).0 e in
    let inner = (and-eq-true_iff (through p) (below A p.inputs)).0 outer.0 in
    rw (inner.0, below_wider A B p.inputs wide inner.1, below_wider A B p.outputs wide outer.1)
