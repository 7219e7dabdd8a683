-- Sorting tried on small lists: numbers, and pairs by their first numbers, of which those that tie
-- stay in order.
-- Assumes nothing.
use Prim.Native.Nat.{ℕ}
use mathlib.Core.Path.{◌≡◌, refl}
use mathlib.Core.List.{[], ◌∷◌}
use lib.Dec.{ltb}
use Rattle.sorting.specs.Sorting.{sorted_by, sorted}

empty : sorted [] ≡ []
empty = refl

numbers : sorted (3 ∷ 1 ∷ 2 ∷ 1 ∷ []) ≡ 1 ∷ 1 ∷ 2 ∷ 3 ∷ []
numbers = refl

ties : sorted_by (λ (p q : ℕ × ℕ). ltb p.0 q.0) ((2, 0) ∷ (1, 1) ∷ (2, 2) ∷ (1, 3) ∷ []) ≡ (1, 1) ∷ (1, 3) ∷ (2, 0) ∷ (2, 2) ∷ []
ties = refl
