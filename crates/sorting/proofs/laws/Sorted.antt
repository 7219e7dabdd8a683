-- What sorting gives: the elements of the list in another order, each after those that come before
-- it; and where each element has a number, and the one with the lower number comes before, the
-- numbers of the sorted elements are the sorted numbers.
-- Assumes nothing.
use Prim.Native.Nat.{ℕ, ◌≤◌}
use native.Mathlib.Omega.{arith}
use mathlib.Core.Path.{◌≡◌, refl, ap, sym, ◌∙◌}
use mathlib.Core.Bool.{Bool, true, false}
use mathlib.Core.List.{List, [], ◌∷◌, map}
use lib.Dec.{ltb}
use borrow.Author.Tests.{ltb-true, ltb-false}
use Rattle.std.specs.List.Sorted.{IsPermutation}
use Rattle.std.proofs.lemmas.List.Sorted.{IsPermutation-refl, IsPermutation-cons, IsPermutation-trans, IsPermutation-middle}
use Rattle.foundation.specs.Lists.{Each, each_nil, each_cons, Ordered, ordered_nil, ordered_cons}
use Rattle.foundation.proofs.laws.Booleans.{by_test}
use Rattle.foundation.proofs.laws.Each.{each_imply, each_always}
use Rattle.sorting.specs.Sorting.{inserted, sorted_by, sorted}

module _ {A : Type 0} (before : A → A → Bool) where
  inserted_moves : (x : A) (xs : List A) → IsPermutation (x ∷ xs) (inserted before x xs)
  inserted_moves x [] = IsPermutation-refl (x ∷ [])
  inserted_moves x (y ∷ ys) =
      by_test
      (before y x)
      (λ t. rw t
      (IsPermutation-trans
      (x ∷ y ∷ ys)
      (y ∷ x ∷ ys)
      (y ∷ inserted before x ys)
      (IsPermutation-middle (x ∷ []) y ys)
      (IsPermutation-cons y (x ∷ ys) (inserted before x ys) (inserted_moves x ys))))
      (λ f. rw f (IsPermutation-refl (x ∷ y ∷ ys)))

  -- the sorted list has the elements of the list
  pub sorted_moves : (xs : List A) → IsPermutation xs (sorted_by before xs)
  sorted_moves [] = IsPermutation-refl []
  sorted_moves (x ∷ xs) =
      IsPermutation-trans
      (x ∷ xs)
      (x ∷ sorted_by before xs)
      (inserted before x (sorted_by before xs))
      (IsPermutation-cons x xs (sorted_by before xs) (sorted_moves xs))
      (inserted_moves x (sorted_by before xs))

  -- so what holds of each element holds of each sorted one
  module _ {P : A → Type 0} where
    inserted_each : (x : A) {xs : List A} → P x → Each P xs → Each P (inserted before x xs)
    inserted_each x here each_nil = each_cons here each_nil
    inserted_each x here (each_cons {x = y} first later) =
        by_test
        (before y x)
        (λ t. rw t (each_cons first (inserted_each x here later)))
        (λ f. rw f (each_cons here (each_cons first later)))

    pub sorted_each : {xs : List A} → Each P xs → Each P (sorted_by before xs)
    sorted_each each_nil = each_nil
    sorted_each (each_cons {x = x} here later) = inserted_each x here (sorted_each later)

  -- where the test decides a transitive relation between any two elements that differ in a way, a
  -- list whose elements differ so is sorted to one that ascends in the relation
  module _
      {D R : A → A → Type 0}
      (holds : (x y : A) → before x y ≡ true → R x y)
      (fails : (x y : A) → D x y → before y x ≡ false → R x y)
      (trans : (x y z : A) → R x y → R y z → R x z)
    where
      inserted_ordered : (x : A) {xs : List A} → Each (D x) xs → Ordered R xs → Ordered R (inserted before x xs)
      inserted_ordered x each_nil ordered_nil = ordered_cons each_nil ordered_nil
      inserted_ordered x (each_cons {x = y} differs others) (ordered_cons first rest) =
          by_test
          (before y x)
          (λ t. rw t (ordered_cons (inserted_each x (holds y x t) first) (inserted_ordered x others rest)))
          (λ f. let next = fails x y differs f in
          rw f (ordered_cons (each_cons next (each_imply (λ z. trans x y z next) first)) (ordered_cons first rest)))

      pub sorted_ordered : {xs : List A} → Ordered D xs → Ordered R (sorted_by before xs)
      sorted_ordered ordered_nil = ordered_nil
      sorted_ordered (ordered_cons {x = x} first rest) = inserted_ordered x (sorted_each first) (sorted_ordered rest)

  -- the numbers of sorted elements are the sorted numbers, where the lower number comes before
  module _ {P : A → Type 0} (number : A → ℕ) (lower : (x y : A) → P x → P y → before x y ≡ ltb (number x) (number y)) where
    inserted_numbers : (x : A) {xs : List A} → P x → Each P xs
        → map number (inserted before x xs) ≡ inserted ltb (number x) (map number xs)
    inserted_numbers x here each_nil = refl
    inserted_numbers x here (each_cons {x = y} first later) =
        by_test
        (before y x)
        (λ t. rw (t, sym (lower y x first here) ∙ t) (ap (◌∷◌ (number y)) (inserted_numbers x here later)))
        (λ f. rw (f, sym (lower y x first here) ∙ f) refl)

    pub sorted_numbers : {xs : List A} → Each P xs → map number (sorted_by before xs) ≡ sorted (map number xs)
    sorted_numbers each_nil = refl
    sorted_numbers (each_cons {x = x} here later) =
        inserted_numbers x here (sorted_each later) ∙ ap (inserted ltb (number x)) (sorted_numbers later)

-- sorted numbers ascend: any two differ well enough
any_two : (xs : List ℕ) → Ordered (λ (m n : ℕ). Unit {0}) xs
any_two [] = ordered_nil
any_two (x ∷ xs) = ordered_cons (each_always (λ n. tt) xs) (any_two xs)

pub sorted_ascends : (xs : List ℕ) → Ordered ◌≤◌ (sorted xs)
sorted_ascends xs =
    sorted_ordered
    ltb
    (λ m n t. omega (arith, ltb-true m n t))
    (λ m n u f. ltb-false n m f)
    (λ l m n h k. omega (arith, h, k))
    (any_two xs)
