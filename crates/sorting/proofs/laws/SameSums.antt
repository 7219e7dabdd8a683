-- Lists over which every function sums to the same, whatever their order: a list and a permutation
-- of it are so.
-- Assumes nothing.
use Prim.Native.Nat.{ℕ}
use native.Mathlib.Omega.{arith}
use mathlib.Core.Path.{◌≡◌, refl, sym, ◌∙◌}
use mathlib.Core.List.{List, [], ◌∷◌, map}
use Rattle.std.specs.List.{sum_by}
use Rattle.std.specs.List.Sorted.{IsPermutation}
use Rattle.std.proofs.lemmas.List.Sorted.{sum_by-IsPermutation}
use Rattle.std.proofs.lemmas.List.Sums.{sum_by-cons}
use Rattle.foundation.specs.Lists.{sum}

-- two lists over which every function sums to the same
abbrev pub SameSums : {A : Type 0} → List A → List A → Type 0
SameSums {A} xs ys = (f : A → ℕ) → sum (map f xs) ≡ sum (map f ys)

-- a list and the same elements in another order are so
module _ {A : Type 0} where
  same_sum : (f : A → ℕ) (xs : List A) → sum_by f xs ≡ sum (map f xs)
  same_sum f [] = refl
  same_sum f (x ∷ xs) = omega (arith, sum_by-cons f x xs, same_sum f xs)

  pub moved_sums : (xs ys : List A) → IsPermutation xs ys → SameSums xs ys
  moved_sums xs ys moves f = sym (same_sum f xs) ∙ sym (sum_by-IsPermutation f xs ys moves) ∙ same_sum f ys
