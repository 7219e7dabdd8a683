-- Laws of ordered lists, in which each element is related to all that come later: what is left of
-- such a list is ordered, and so are its images and two such lists in turn, where the relation goes
-- with them.
-- Assumes nothing.
use Prim.Native.Nat.{ℕ, zero, suc, ◌<◌}
use mathlib.Core.Path.{◌≡◌, sym, subst}
use mathlib.Core.Bool.{Bool}
use mathlib.Core.List.{List, [], ◌∷◌, ◌++◌, map, flat_map}
use Rattle.foundation.specs.Lists.{Each, each_nil, each_cons, Ordered, ordered_nil, ordered_cons, up_to}
use Rattle.std.specs.List.{filter}
use Rattle.foundation.proofs.laws.Booleans.{cond_either}
use Rattle.foundation.proofs.laws.Each.{each_imply, each_always, each_append, each_both, each_filter, each_map, each_flat_map, each_up_to}

module _ {A : Type 0} {R : A → A → Type 0} where
  -- elements that are related are related in another way too
  pub ordered_imply : {Q : A → A → Type 0} {xs : List A} → ((x y : A) → R x y → Q x y) → Ordered R xs → Ordered Q xs
  ordered_imply f ordered_nil = ordered_nil
  ordered_imply f (ordered_cons {x = x} first rest) = ordered_cons (each_imply (f x) first) (ordered_imply f rest)

  -- the same where P holds of each of them
  pub ordered_among : {P : A → Type 0} {Q : A → A → Type 0} {xs : List A}
      → ((x y : A) → P x → P y → R x y → Q x y) → Each P xs → Ordered R xs → Ordered Q xs
  ordered_among f each_nil ordered_nil = ordered_nil
  ordered_among f (each_cons {x = x} here later) (ordered_cons first rest) =
      ordered_cons (each_imply (λ y both. f x y here both.0 both.1) (each_both later first)) (ordered_among f later rest)

  -- no two elements are equal where none is related to itself
  pub ordered_distinct : {xs : List A} → ((x : A) → R x x → ⊥) → Ordered R xs → Ordered (λ (x y : A). x ≡ y → ⊥) xs
  ordered_distinct irreflexive = ordered_imply (λ x y related same. irreflexive x (subst (R x) (sym same) related))

  -- the elements that pass a test
  pub ordered_filter : (p : A → Bool) {xs : List A} → Ordered R xs → Ordered R (filter p xs)
  ordered_filter p ordered_nil = ordered_nil
  ordered_filter p (ordered_cons {x = x} first rest) =
      cond_either (Ordered R) (p x) (ordered_cons (each_filter p first) (ordered_filter p rest)) (ordered_filter p rest)

  -- two lists in turn, where the elements of the first are related to those of the second
  pub ordered_append : {xs ys : List A} → Ordered R xs → Ordered R ys → Each (λ (x : A). Each (R x) ys) xs → Ordered R (xs ++ ys)
  ordered_append ordered_nil after across = after
  ordered_append (ordered_cons first rest) after (each_cons here later) =
      ordered_cons (each_append first here) (ordered_append rest after later)

-- the end of an ordered list, and its first element against the others
pub ordered_back : {A : Type 0} {R : A → A → Type 0} (xs : List A) {ys : List A} → Ordered R (xs ++ ys) → Ordered R ys
ordered_back [] o = o
ordered_back (x ∷ xs) (ordered_cons here later) = ordered_back xs later

pub ordered_head : {A : Type 0} {R : A → A → Type 0} {x : A} {xs : List A} → Ordered R (x ∷ xs) → Each (R x) xs
ordered_head (ordered_cons here later) = here

-- the images of elements whose images are related
pub ordered_map : {A B : Type 0} {R : B → B → Type 0} (f : A → B) {xs : List A} → Ordered (λ (x y : A). R (f x) (f y)) xs → Ordered R (map f xs)
ordered_map f ordered_nil = ordered_nil
ordered_map f (ordered_cons first rest) = ordered_cons (each_map f first) (ordered_map f rest)

-- the numbers below n ascend
pub up_to_ordered : (n : ℕ) → Ordered ◌<◌ (up_to n)
up_to_ordered zero = ordered_nil
up_to_ordered (suc n) =
    ordered_append (up_to_ordered n) (ordered_cons each_nil ordered_nil) (each_up_to n λ k less. each_cons less each_nil)

-- what is made of every two elements of two lists, by the first list first and then by the second
module _
    {A B C : Type 0}
    {R : A → A → Type 0}
    {S : C → C → Type 0}
    (f : A → B → C)
    (ys : List B)
    (within : (x : A) → Ordered (λ (b c : B). S (f x b) (f x c)) ys)
    (across : (x y : A) → R x y → (b c : B) → S (f x b) (f y c))
  where
    pub ordered_pairs : {xs : List A} → Ordered R xs → Ordered S (flat_map (λ (x : A). map (f x) ys) xs)
    unfolding flat_map
    ordered_pairs ordered_nil = ordered_nil
    ordered_pairs (ordered_cons {x = x} {xs = xs} first rest) =
        ordered_append (ordered_map (f x) (within x)) (ordered_pairs rest) (each_map (f x) (each_always after ys))
      where
        after : (b : B) → Each (S (f x b)) (flat_map (λ (y : A). map (f y) ys) xs)
        after b =
            each_flat_map
            (λ (y : A). map (f y) ys)
            (each_imply (λ y related. each_map (f y) (each_always (across x y related b) ys)) first)
