-- The stated order of sets, and that of places, is strict: nothing comes before itself, and the
-- order is transitive.
-- Assumes nothing.
use Prim.Native.Nat.{ℕ}
use native.Mathlib.Nat.{lt_trans}
use native.Mathlib.Omega.{arith}
use mathlib.Core.Path.{◌≡◌, refl, ◌∙◌}
use mathlib.Core.Logic.{inl, inr}
use mathlib.Core.List.{List, nil≢cons, head-eq_of_cons-eq, tail-eq_of_cons-eq}
use Rattle.places.specs.declared.Place.{Place}
use Rattle.places.specs.Order.{CodesBefore, ends, lower, same, SetBefore, PlaceBefore}

-- where two lists of codes are equal, neither ends first and no code is lower
apart : {s t : List ℕ} → CodesBefore s t → s ≡ t → ⊥
apart ends e = nil≢cons e
apart (lower h) e = omega (arith, head-eq_of_cons-eq e)
apart (same h) e = apart h (tail-eq_of_cons-eq e)

-- no set comes before itself
pub set_irreflexive : (s : ℕ) → SetBefore s s → ⊥
unfolding SetBefore
set_irreflexive s h = apart h refl

-- what comes before a list that comes before a third comes before the third
codes_transitive : {s t u : List ℕ} → CodesBefore s t → CodesBefore t u → CodesBefore s u
codes_transitive ends (lower k) = ends
codes_transitive ends (same k) = ends
codes_transitive (lower h) (lower k) = lower (lt_trans h k)
codes_transitive (lower h) (same k) = lower h
codes_transitive (same h) (lower k) = lower k
codes_transitive (same h) (same k) = same (codes_transitive h k)

-- and so of sets
pub set_transitive : (s t u : ℕ) → SetBefore s t → SetBefore t u → SetBefore s u
unfolding SetBefore
set_transitive s t u h k = codes_transitive h k

-- no place comes before itself
pub place_irreflexive : (p : Place) → PlaceBefore p p → ⊥
unfolding PlaceBefore
place_irreflexive p (inl h) = set_irreflexive p.outputs h
place_irreflexive p (inr h) = set_irreflexive p.inputs h.1

-- the order of places is transitive, as that of their outputs is, and of their inputs
pub place_transitive : (p q r : Place) → PlaceBefore p q → PlaceBefore q r → PlaceBefore p r
unfolding PlaceBefore
place_transitive p q r (inl h) (inl k) = inl (set_transitive p.outputs q.outputs r.outputs h k)
place_transitive p q r (inl h) (inr k) = inl (rw k.0 at h)
place_transitive p q r (inr h) (inl k) = inl (rw h.0 k)
place_transitive p q r (inr h) (inr k) = inr (h.0 ∙ k.0, set_transitive p.inputs q.inputs r.inputs h.1 k.1)
