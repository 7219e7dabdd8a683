-- Laws of the words for lists.
-- Assumes nothing.
use Prim.Native.Nat.{ℕ, zero, suc, ◌*◌, ◌<◌}
use native.Mathlib.Nat.{zero-mul, suc-mul, add_comm}
use native.Mathlib.Omega.{arith}
use mathlib.Core.Path.{◌≡◌, refl, sym, ap, ap₂, ◌∙◌}
use mathlib.Core.Bool.{Bool, true, false, cond, and-eq-true_iff}
use mathlib.Core.List.{List, [], ◌∷◌, ◌++◌, map, flat_map, map-append, map-map}
use lib.ListN.{length, take, get_or, length-append}
use Rattle.foundation.specs.Lists.{Each, each_nil, each_cons, pairwise, up_to}
use Rattle.std.specs.List.{filter, list_all}
use Rattle.std.proofs.lemmas.List.{map-id}

module _ {A : Type 0} {P : A → Type 0} {x : A} {xs : List A} where
  pub each_head : Each P (x ∷ xs) → P x
  each_head (each_cons here later) = here

  pub each_tail : Each P (x ∷ xs) → Each P xs
  each_tail (each_cons here later) = later

-- of a list whose every two elements are related: the first two are, and so is the list without its
-- first, or without its second, element
module _ {A : Type 0} (r : A → A → Bool) where
  pub pairwise_tail : (x : A) (xs : List A) → pairwise r (x ∷ xs) ≡ true → pairwise r xs ≡ true
  pairwise_tail x xs e = ((and-eq-true_iff (list_all (r x) xs) (pairwise r xs)).0 e).1

  first_all : (x : A) (xs : List A) → pairwise r (x ∷ xs) ≡ true → list_all (r x) xs ≡ true
  first_all x xs e = ((and-eq-true_iff (list_all (r x) xs) (pairwise r xs)).0 e).0

  pub pairwise_first : (x y : A) (xs : List A) → pairwise r (x ∷ y ∷ xs) ≡ true → r x y ≡ true
  pairwise_first x y xs e = ((and-eq-true_iff (r x y) (list_all (r x) xs)).0 (first_all x (y ∷ xs) e)).0

  pub pairwise_skip : (x y : A) (xs : List A) → pairwise r (x ∷ y ∷ xs) ≡ true → pairwise r (x ∷ xs) ≡ true
  pairwise_skip x y xs e =
      (and-eq-true_iff (list_all (r x) xs) (pairwise r xs)).1 (
        ((and-eq-true_iff (r x y) (list_all (r x) xs)).0 (first_all x (y ∷ xs) e)).1,
        pairwise_tail y xs (pairwise_tail x (y ∷ xs) e),
      )

-- a list with an element is what stands before its last element, and that element
pub last_split : {A : Type 0} (x : A) (xs : List A) (d : A) → x ∷ xs ≡ take (length xs) (x ∷ xs) ++ (get_or (x ∷ xs) (length xs) d ∷ [])
last_split x [] d = refl
last_split x (y ∷ xs) d = ap (◌∷◌ x) (last_split y xs d)

-- of the images of a list, those that pass are the images of the elements that pass, where the
-- tests agree
module _ {A B : Type 0} (p : B → Bool) (q : A → Bool) (f : A → B) (agree : (x : A) → p (f x) ≡ q x) where
  pub filter_of_map : (xs : List A) → filter p (map f xs) ≡ map f (filter q xs)
  filter_of_map [] = refl
  filter_of_map (x ∷ xs) = rw (agree x) (go (q x) (filter_of_map xs))
    where
      go : (b : Bool) → filter p (map f xs) ≡ map f (filter q xs)
          → cond b (f x ∷ filter p (map f xs)) (filter p (map f xs)) ≡ map f (cond b (x ∷ filter q xs) (filter q xs))
      go true e = ap (◌∷◌ (f x)) e
      go false e = e

  -- all images pass where all elements do
  pub all_map : (xs : List A) → list_all p (map f xs) ≡ list_all q xs
  all_map [] = refl
  all_map (x ∷ xs) = rw (agree x, all_map xs)

-- two functions that agree on each element
pub map_same : {A B : Type 0} (f g : A → B) {xs : List A} → Each (λ (x : A). f x ≡ g x) xs → map f xs ≡ map g xs
map_same f g each_nil = refl
map_same f g (each_cons here later) = ap₂ ◌∷◌ here (map_same f g later)

-- lists in turn, each of the same length
pub length_flat_map : {A B : Type 0} (f : A → List B) (k : ℕ) → ((x : A) → length (f x) ≡ k) → (xs : List A) → length (flat_map f xs) ≡ length xs * k
unfolding flat_map
length_flat_map f k same [] = sym (zero-mul k)
length_flat_map f k same (x ∷ xs) =
    rw (length-append (f x) (flat_map f xs), same x, length_flat_map f k same xs, suc-mul) (add_comm k (length xs * k))

-- the numbers below n + 1: 0, and the numbers below n, each one more
pub up_to_raised : (n : ℕ) → up_to (suc n) ≡ 0 ∷ map suc (up_to n)
up_to_raised zero = refl
up_to_raised (suc n) = ap (λ (l : List ℕ). l ++ (suc n ∷ [])) (up_to_raised n) ∙ ap (◌∷◌ 0) (sym (map-append suc (up_to n) (n ∷ [])))

-- what f gives of the number k stands at the index k
pub numbered_at : (f : ℕ → ℕ) (n k : ℕ) → k < n → get_or (map f (up_to n)) k 0 ≡ f k
numbered_at f zero k less = absurd (omega (arith, less))
numbered_at f (suc n) zero less = ap (λ (l : List ℕ). get_or (map f l) 0 0) (up_to_raised n)
numbered_at f (suc n) (suc k) less =
    ap (λ (l : List ℕ). get_or (map f l) (suc k) 0) (up_to_raised n)
    ∙ ap (λ (l : List ℕ). get_or l k 0) (map-map f suc (up_to n))
    ∙ numbered_at (λ (m : ℕ). f (suc m)) n k (omega (arith, less))

-- and of the numbers themselves, each stands at its own index
pub counted_at : (n k : ℕ) → k < n → get_or (up_to n) k 0 ≡ k
counted_at n k less = ap (λ (l : List ℕ). get_or l k 0) (sym (map-id (up_to n))) ∙ numbered_at (λ (m : ℕ). m) n k less
