-- Laws of what holds of each element of a list, of tests of each, and of the numbers below n:
-- something holds of each of them exactly if it holds of every number that is below n.
-- Assumes nothing.
use Prim.Native.Nat.{ℕ, zero, suc, ◌<◌}
use native.Mathlib.Omega.{arith}
use mathlib.Core.Path.{◌≡◌, refl, ap, ap₂}
use mathlib.Core.Bool.{Bool, true, false, cond, false≢true, and-eq-true_iff}
use mathlib.Core.List.{List, [], ◌∷◌, ◌++◌, map, flat_map}
use lib.Dec.{eqb}
use lib.ListN.{length, take, drop, get_or, length-append}
use borrow.Author.Tests.{eqb-true, eqb-false}
use Rattle.foundation.specs.Lists.{Each, each_nil, each_cons, up_to}
use Rattle.std.specs.List.{filter, list_all, list_any}
use Rattle.foundation.proofs.laws.Booleans.{cond_either, or_false_parts}
use Rattle.foundation.proofs.laws.Lists.{each_head}

module _ {A : Type 0} {P : A → Type 0} where
  pub each_imply : {Q : A → Type 0} {xs : List A} → ((x : A) → P x → Q x) → Each P xs → Each Q xs
  each_imply f each_nil = each_nil
  each_imply f (each_cons {x = x} here later) = each_cons (f x here) (each_imply f later)

  pub each_always : ((x : A) → P x) → (xs : List A) → Each P xs
  each_always h [] = each_nil
  each_always h (x ∷ xs) = each_cons (h x) (each_always h xs)

  pub each_take : (n : ℕ) {xs : List A} → Each P xs → Each P (take n xs)
  each_take zero e = each_nil
  each_take (suc n) each_nil = each_nil
  each_take (suc n) (each_cons here later) = each_cons here (each_take n later)

  pub each_drop : (n : ℕ) {xs : List A} → Each P xs → Each P (drop n xs)
  each_drop zero e = e
  each_drop (suc n) each_nil = each_nil
  each_drop (suc n) (each_cons here later) = each_drop n later

  pub each_at : (n : ℕ) (d : A) {xs : List A} → Each P xs → n < length xs → P (get_or xs n d)
  each_at n d each_nil less = absurd (omega arith)
  each_at zero d (each_cons here later) less = here
  each_at (suc n) d (each_cons here later) less = each_at n d later (omega arith)

  -- what holds at every place of a list holds of each of its elements
  pub each_placed : (d : A) (xs : List A) → ((n : ℕ) → n < length xs → P (get_or xs n d)) → Each P xs
  each_placed d [] h = each_nil
  each_placed d (x ∷ xs) h = each_cons (h 0 (omega arith)) (each_placed d xs λ n less. h (suc n) (omega (arith, less)))

  pub each_append : {xs ys : List A} → Each P xs → Each P ys → Each P (xs ++ ys)
  each_append each_nil e = e
  each_append (each_cons here later) e = each_cons here (each_append later e)

  pub each_front : (xs ys : List A) → Each P (xs ++ ys) → Each P xs
  each_front [] ys e = each_nil
  each_front (x ∷ xs) ys (each_cons here later) = each_cons here (each_front xs ys later)

  pub each_back : (xs ys : List A) → Each P (xs ++ ys) → Each P ys
  each_back [] ys e = e
  each_back (x ∷ xs) ys (each_cons here later) = each_back xs ys later

  pub each_both : {Q : A → Type 0} {xs : List A} → Each P xs → Each Q xs → Each (λ (x : A). P x × Q x) xs
  each_both each_nil each_nil = each_nil
  each_both (each_cons here later) (each_cons here' later') = each_cons (here, here') (each_both later later')

  pub each_filter : (p : A → Bool) {xs : List A} → Each P xs → Each P (filter p xs)
  each_filter p each_nil = each_nil
  each_filter p (each_cons {x = x} here later) = cond_either (Each P) (p x) (each_cons here (each_filter p later)) (each_filter p later)

pub each_map : {A B : Type 0} {P : B → Type 0} (f : A → B) {xs : List A} → Each (λ (x : A). P (f x)) xs → Each P (map f xs)
each_map f each_nil = each_nil
each_map f (each_cons here later) = each_cons here (each_map f later)

pub each_unmap : {A B : Type 0} {P : B → Type 0} (f : A → B) (xs : List A) → Each P (map f xs) → Each (λ (x : A). P (f x)) xs
each_unmap f [] each_nil = each_nil
each_unmap f (x ∷ xs) (each_cons here later) = each_cons here (each_unmap f xs later)

pub each_flat_map : {A B : Type 0} {P : B → Type 0} (f : A → List B) {xs : List A}
    → Each (λ (x : A). Each P (f x)) xs → Each P (flat_map f xs)
unfolding flat_map
each_flat_map f each_nil = each_nil
each_flat_map f (each_cons here later) = each_append here (each_flat_map f later)

-- what has one proof at most of each element has one of all
pub each_prop : {A : Type 0} {P : A → Type 0} → ((x : A) → IsProp (P x)) → (xs : List A) → IsProp (Each P xs)
each_prop once [] each_nil each_nil = refl
each_prop once (x ∷ xs) (each_cons here later) (each_cons here' later') = ap₂ each_cons (once x here here') (each_prop once xs later later')

-- each element passes a test, or each fails it
module _ {A : Type 0} (p : A → Bool) where
  pub all_each : (xs : List A) → list_all p xs ≡ true → Each (λ (x : A). p x ≡ true) xs
  all_each [] e = each_nil
  all_each (x ∷ xs) e = let t = (and-eq-true_iff (p x) (list_all p xs)).0 e in each_cons t.0 (all_each xs t.1)

  pub each_all : {xs : List A} → Each (λ (x : A). p x ≡ true) xs → list_all p xs ≡ true
  each_all each_nil = refl
  each_all (each_cons here later) = rw here (each_all later)

  pub none_each : (xs : List A) → list_any p xs ≡ false → Each (λ (x : A). p x ≡ false) xs
  none_each [] e = each_nil
  none_each (x ∷ xs) e = let t = or_false_parts (p x) (list_any p xs) e in each_cons t.0 (none_each xs t.1)

  pub each_none : {xs : List A} → Each (λ (x : A). p x ≡ false) xs → list_any p xs ≡ false
  each_none each_nil = refl
  each_none (each_cons here later) = rw here (each_none later)

-- the element at an index passes where all do
pub all_at : {A : Type 0} (p : A → Bool) (xs : List A) (k : ℕ) (d : A) → list_all p xs ≡ true → k < length xs → p (get_or xs k d) ≡ true
all_at p [] k d e h = absurd (omega arith)
all_at p (x ∷ xs) zero d e h = ((and-eq-true_iff (p x) (list_all p xs)).0 e).0
all_at p (x ∷ xs) (suc k) d e h = all_at p xs k d ((and-eq-true_iff (p x) (list_all p xs)).0 e).1 (omega arith)

-- where all that q keeps passes p, each element that passes q passes p
pub all_filter : {A : Type 0} (p q : A → Bool) (xs : List A) → list_all p (filter q xs) ≡ true → Each (λ (x : A). q x ≡ true → p x ≡ true) xs
all_filter p q [] e = each_nil
all_filter p q (x ∷ xs) e = let h = go (q x) e in each_cons h.0 (all_filter p q xs h.1)
  where
    go : (b : Bool) → list_all p (cond b (x ∷ filter q xs) (filter q xs)) ≡ true → (b ≡ true → p x ≡ true) × (list_all p (filter q xs) ≡ true)
    go true h = let both = (and-eq-true_iff (p x) (list_all p (filter q xs))).0 h in (λ _. both.0, both.1)
    go false h = (λ c. absurd (false≢true c), h)

-- and where each does so, all that q keeps passes p
pub all_kept : {A : Type 0} (p q : A → Bool) {xs : List A} → Each (λ (x : A). q x ≡ true → p x ≡ true) xs → list_all p (filter q xs) ≡ true
all_kept p q each_nil = refl
all_kept p q (each_cons {x = x} {xs = xs} here later) = go (q x) here (all_kept p q later)
  where
    go : (b : Bool) → (b ≡ true → p x ≡ true) → list_all p (filter q xs) ≡ true → list_all p (cond b (x ∷ filter q xs) (filter q xs)) ≡ true
    go true h rest = rw (h refl) rest
    go false h rest = rest

-- keeping elements that all pass, or of which none does
module _ {A : Type 0} (p : A → Bool) where
  pub filter_every : {xs : List A} → Each (λ (x : A). p x ≡ true) xs → filter p xs ≡ xs
  filter_every each_nil = refl
  filter_every (each_cons {x = x} here later) = rw here (ap (◌∷◌ x) (filter_every later))

  pub filter_none : {xs : List A} → Each (λ (x : A). p x ≡ false) xs → filter p xs ≡ []
  filter_none each_nil = refl
  filter_none (each_cons here later) = rw here (filter_none later)

pub length_up_to : (n : ℕ) → length (up_to n) ≡ n
length_up_to zero = refl
length_up_to (suc n) = omega (arith, length-append (up_to n) (n ∷ []), length_up_to n)

module _ {P : ℕ → Type 0} where
  pub each_up_to : (n : ℕ) → ((k : ℕ) → k < n → P k) → Each P (up_to n)
  each_up_to zero h = each_nil
  each_up_to (suc n) h = each_append (each_up_to n λ k l. h k (omega arith)) (each_cons (h n (omega arith)) each_nil)

  pub up_to_each : (n : ℕ) → Each P (up_to n) → (k : ℕ) → k < n → P k
  up_to_each zero e k l = absurd (omega arith)
  up_to_each (suc n) e k l = go (eqb k n) refl (up_to_each n (each_front (up_to n) (n ∷ []) e) k)
    where
      go : (b : Bool) → eqb k n ≡ b → (k < n → P k) → P k
      go true q before = rw (eqb-true k n q) (each_head (each_back (up_to n) (n ∷ []) e))
      go false q before = before (omega (arith, eqb-false k n q))
