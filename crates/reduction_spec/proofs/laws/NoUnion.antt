-- What the sentence form of a union leaves out. A place alone in its list is no union: two parts
-- would both be that place, and it overlaps itself. And 3/5 is no union of 1/2 and 2/4: no part can
-- be taken twice, and the two together are 3/6.
-- Assumes nothing.
use Prim.Native.Nat.{ℕ, ◌≤◌}
use native.Mathlib.Omega.{arith}
use mathlib.Core.Path.{◌≡◌, refl, sym, ap, ap₂, ◌∙◌}
use mathlib.Core.Logic.{◌⊎◌, inl, inr, ⊎_elim}
use mathlib.Core.Bool.{true, false, false≢true}
use mathlib.Core.List.Memᴰ
use mathlib.Core.List.{List, [], ◌∷◌, map, Memᴰ}
use lib.ListN.{length}
use Rattle.foundation.specs.Lists.{Each, pairwise}
use Rattle.foundation.proofs.laws.Lists.{each_head, each_tail, pairwise_first, pairwise_skip, pairwise_tail}
use Rattle.places.specs.declared.Place.{Place}
use Rattle.places.specs.Places.{place, word, place_of, non_overlapping}
use Rattle.reduction_spec.specs.Unions.{join_all, UnionOf}
use Rattle.reduction_spec.proofs.Opened.{opened}

-- two equal parts do not stand apart, where their place overlaps itself
clash : {q a b : Place} → non_overlapping q q ≡ false → a ≡ q → b ≡ q → non_overlapping a b ≡ true → ⊥
clash overlaps e f apart = false≢true (sym overlaps ∙ ap₂ non_overlapping (sym e) (sym f) ∙ apart)

module _ (w : ℕ) (overlaps : non_overlapping (place_of w) (place_of w) ≡ false) where
  two_parts : (parts : List Place) → 2 ≤ length parts → Each (λ (q : Place). Memᴰ q (map place_of (w ∷ []))) parts
      → pairwise non_overlapping parts ≡ true → ⊥
  two_parts [] several listed apart = omega arith
  two_parts (a ∷ []) several listed apart = omega arith
  two_parts (a ∷ (b ∷ rest)) several listed apart =
      clash
      overlaps
      (Memᴰ.eq_of_singleton (each_head listed))
      (Memᴰ.eq_of_singleton (each_head (each_tail listed)))
      (pairwise_first non_overlapping a b rest apart)

  pub alone : (p : Place) → UnionOf (w ∷ []) p → ⊥
  alone p u = two_parts u.parts (omega (arith, u.several)) u.listed u.apart

pub one_two_alone : (p : Place) → UnionOf (word (place 1 2) ∷ []) p → ⊥
unfolding opened
one_two_alone = alone (word (place 1 2)) refl

-- 1/2 and 2/4
abbrev pair : List ℕ
pair = word (place 1 2) ∷ word (place 2 4) ∷ []

abbrev Listed : Place → Type 0
Listed q = Memᴰ q (map place_of pair)

one_of : (q : Place) → Listed q → (q ≡ place 1 2) ⊎ (q ≡ place 2 4)
unfolding opened
one_of q at = ⊎_elim inl (λ later. inr (Memᴰ.eq_of_singleton later)) (Memᴰ.cases_cons at)

other_one_of : (q : Place) → Listed q → (q ≡ place 2 4) ⊎ (q ≡ place 1 2)
other_one_of q at = ⊎_elim inr inl (one_of q at)

-- once both places x and y of the list are taken, a third part would be one of them again, and
-- without one their union is 3/6
module _ (x y : Place) (x_overlaps : non_overlapping x x ≡ false) (y_overlaps : non_overlapping y y ≡ false)
    (together : join_all (x ∷ y ∷ []) ≡ place 3 6) (one : (q : Place) → Listed q → (q ≡ x) ⊎ (q ≡ y)) where
  both : (a b : Place) (rest : List Place) → a ≡ x → b ≡ y → Each Listed rest → pairwise non_overlapping (a ∷ b ∷ rest) ≡ true
      → join_all (a ∷ b ∷ rest) ≡ place 3 5 → ⊥
  both a b [] e f listed apart joined =
      omega (arith, ap (λ (p : Place). p.outputs) (sym together ∙ ap₂ (λ (a b : Place). join_all (a ∷ b ∷ [])) (sym e) (sym f) ∙ joined))
  both a b (c ∷ rest) e f listed apart joined =
      ⊎_elim
      (λ g. clash x_overlaps e g (pairwise_first non_overlapping a c rest (pairwise_skip non_overlapping a b (c ∷ rest) apart)))
      (λ g. clash y_overlaps f g (pairwise_first non_overlapping b c rest (pairwise_tail non_overlapping a (b ∷ c ∷ rest) apart)))
      (one c (each_head listed))

parts_of_pair : (parts : List Place) → 2 ≤ length parts → Each Listed parts → pairwise non_overlapping parts ≡ true
    → join_all parts ≡ place 3 5 → ⊥
unfolding opened
parts_of_pair [] several listed apart joined = omega arith
parts_of_pair (a ∷ []) several listed apart joined = omega arith
parts_of_pair (a ∷ (b ∷ rest)) several listed apart joined = go (one_of a (each_head listed)) (one_of b (each_head (each_tail listed)))
  where
    others : Each Listed rest
    others = each_tail (each_tail listed)

    go : (a ≡ place 1 2) ⊎ (a ≡ place 2 4) → (b ≡ place 1 2) ⊎ (b ≡ place 2 4) → ⊥
    go (inl e) (inl f) = clash refl e f (pairwise_first non_overlapping a b rest apart)
    go (inl e) (inr f) = both (place 1 2) (place 2 4) refl refl refl one_of a b rest e f others apart joined
    go (inr e) (inl f) = both (place 2 4) (place 1 2) refl refl refl other_one_of a b rest e f others apart joined
    go (inr e) (inr f) = clash refl e f (pairwise_first non_overlapping a b rest apart)

pub three_five : UnionOf pair (place 3 5) → ⊥
three_five u = parts_of_pair u.parts (omega (arith, u.several)) u.listed u.apart u.joined
