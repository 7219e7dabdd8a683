-- Laws of sums over lists: a sum of sums, in either order, sums compared element by element, what
-- keeping some elements leaves of a sum, and sums that count.
-- Assumes nothing.
use Prim.Native.Nat.{ℕ, zero, suc, ◌+◌, ◌≤◌, ◌<◌}
use native.Mathlib.Nat.{le_refl}
use native.Mathlib.Omega.{arith}
use mathlib.Core.Path.{◌≡◌, refl, ap, sym, ◌∙◌}
use mathlib.Core.Bool.{Bool, true, false, cond}
use mathlib.Core.List.{List, [], ◌∷◌, ◌++◌, map}
use lib.Dec.{eqb}
use lib.ListN.{length}
use borrow.Author.Tests.{eqb-true, eqb-false}
use Rattle.foundation.specs.Lists.{Each, each_nil, each_cons, up_to, sum}
use Rattle.std.specs.List.{filter}
use Rattle.foundation.proofs.laws.Booleans.{by_test}
use Rattle.foundation.proofs.laws.Each.{each_always, each_up_to}

module _ {A : Type 0} where
  -- a sum over two lists in turn
  pub sum_append : (f : A → ℕ) (xs ys : List A) → sum (map f (xs ++ ys)) ≡ sum (map f xs) + sum (map f ys)
  sum_append f [] ys = omega arith
  sum_append f (x ∷ xs) ys = omega (arith, sum_append f xs ys)

  -- two sums over one list
  pub sum_add : (f g h : A → ℕ) → ((x : A) → f x + g x ≡ h x) → (xs : List A) → sum (map f xs) + sum (map g xs) ≡ sum (map h xs)
  sum_add f g h e [] = refl
  sum_add f g h e (x ∷ xs) = omega (arith, e x, sum_add f g h e xs)

  -- a sum of smaller numbers
  pub sum_le : (f g : A → ℕ) {xs : List A} → Each (λ (x : A). f x ≤ g x) xs → sum (map f xs) ≤ sum (map g xs)
  sum_le f g each_nil = le_refl 0
  sum_le f g (each_cons here later) = omega (arith, sum_le f g later)

  -- a sum of numbers that are at most 1
  pub sum_le_length : (f : A → ℕ) → ((x : A) → f x ≤ 1) → (xs : List A) → sum (map f xs) ≤ length xs
  sum_le_length f h [] = le_refl 0
  sum_le_length f h (x ∷ xs) = omega (arith, h x, sum_le_length f h xs)

  -- what is not kept counts 0
  pub sum_filter : (f : A → ℕ) (p : A → Bool) (xs : List A) → sum (map f (filter p xs)) ≡ sum (map (λ (x : A). cond (p x) (f x) 0) xs)
  sum_filter f p [] = refl
  sum_filter f p (x ∷ xs) = go (p x) (sum_filter f p xs)
    where
      rest : ℕ
      rest = sum (map (λ (y : A). cond (p y) (f y) 0) xs)

      go : (b : Bool) → sum (map f (filter p xs)) ≡ rest → sum (map f (cond b (x ∷ filter p xs) (filter p xs))) ≡ cond b (f x) 0 + rest
      go true e = omega arith
      go false e = omega arith

  -- a sum of nothing, and of ones
  pub sum_zero : (f : A → ℕ) {xs : List A} → Each (λ (x : A). f x ≡ 0) xs → sum (map f xs) ≡ 0
  sum_zero f each_nil = refl
  sum_zero f (each_cons here later) = omega (arith, here, sum_zero f later)

  pub sum_ones : (xs : List A) → sum (map (λ (x : A). 1) xs) ≡ length xs
  sum_ones [] = refl
  sum_ones (x ∷ xs) = omega (arith, sum_ones xs)

  -- how many elements pass a test
  pub count_passing : (p : A → Bool) (xs : List A) → length (filter p xs) ≡ sum (map (λ (x : A). cond (p x) 1 0) xs)
  count_passing p xs = sym (sum_ones (filter p xs)) ∙ sum_filter (λ (x : A). 1) p xs

-- a sum of sums over two lists
module _ {A B : Type 0} (f : A → B → ℕ) where
  pub sum_exchange : (xs : List A) (ys : List B)
      → sum (map (λ (x : A). sum (map (f x) ys)) xs) ≡ sum (map (λ (y : B). sum (map (λ (x : A). f x y) xs)) ys)
  sum_exchange [] ys = sym (sum_zero (λ (y : B). 0) (each_always (λ y. refl) ys))
  sum_exchange (x ∷ xs) ys =
      ap (◌+◌ (sum (map (f x) ys))) (sum_exchange xs ys)
      ∙ sum_add (f x) (λ (y : B). sum (map (λ (z : A). f z y) xs)) (λ (y : B). sum (map (λ (z : A). f z y) (x ∷ xs))) (λ y. refl) ys

-- of the numbers below n one alone counts, with a weight
module _ (weight m : ℕ) where
  abbrev alone : ℕ → ℕ
  alone k = cond (eqb m k) weight 0

  pub sum_one : (n : ℕ) → m < n → sum (map alone (up_to n)) ≡ weight
  sum_one zero less = absurd (omega (arith, less))
  sum_one (suc n) less =
      sum_append alone (up_to n) (n ∷ [])
      ∙ by_test
      (eqb m n)
      (λ t. omega (arith, ap (λ (b : Bool). cond b weight 0) t, sum_zero alone (each_up_to n (others t))))
      (λ f. omega (arith, ap (λ (b : Bool). cond b weight 0) f, sum_one n (omega (arith, less, eqb-false m n f))))
    where
      others : eqb m n ≡ true → (k : ℕ) → k < n → alone k ≡ 0
      others t k below =
          by_test
          (eqb m k)
          (λ s. absurd (omega (arith, below, eqb-true m k s, eqb-true m n t)))
          (λ f. ap (λ (b : Bool). cond b weight 0) f)
