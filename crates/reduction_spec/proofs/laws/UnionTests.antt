-- The sentence form of a union, its test and the cover search agree on a list of places. Two parts
-- are non-overlapping exactly if their words share no bit, and then the word of their union is the
-- sum; so the parts of a union, taken away one after the other, leave nothing. Two or more parts
-- are then parts other than the whole, since every part has an activity. A cover takes no word of
-- the list twice, so its parts can be taken in the order of the list, which is a choice that the
-- test tries.
-- Assumes nothing.
use Prim.Native.Nat.{ℕ, ◌/◌, ◌%◌, ◌≤◌, ◌<◌}
use native.Mathlib.Omega.{arith}
use mathlib.Core.Path.{◌≡◌, sym, ap, ap₂, subst, ◌∙◌}
use mathlib.Core.Logic.{◌↔◌}
use mathlib.Core.Bool.{true, ◌&&◌, and-eq-true_iff}
use mathlib.Core.List.{List, map, Memᴰ}
use lib.Dec.{eqb, leb}
use lib.ListN.{length, length-map}
use borrow.Author.Tests.{eqb-true, eq-eqb, leb-true, le-leb, ltb-true}
use Rattle.foundation.specs.Lists.{Each, pairwise, sublists}
use Rattle.foundation.proofs.laws.Any.{any_member, member_any}
use Rattle.foundation.proofs.laws.Each.{each_imply}
use Rattle.foundation.proofs.laws.Members.{each_member, each_of_map}
use Rattle.foundation.proofs.laws.Sublists.{sublist_members, sublist_map}
use Rattle.limits.specs.Settings.{most_activities}
use Rattle.places.specs.declared.Place.{Place}
use Rattle.places.specs.Places.{place, word, place_of, through, below, place_under, non_overlapping}
use Rattle.reduction_spec.specs.Unions.{join_all, UnionOf, same_place, compose, is_union}
use Rattle.reduction_spec.specs.Cover.{Listable, Cover}
use Rattle.reduction_spec.specs.Reduction.{redundant}
use Rattle.reduction_spec.proofs.laws.CoverChoices.{partition_cover, cover_choice}
use Rattle.reduction_spec.proofs.laws.Covers.{word_halves}
use Rattle.reduction_spec.proofs.laws.Partitions.{Small, partition_places, places_partition, whole_some, none_whole, several_parts}
use Rattle.reduction_spec.proofs.laws.PlaceWords.{word_of_place}

same_place_lem : (p q : Place) → (same_place p q ≡ true) ↔ (p ≡ q)
unfolding same_place
same_place_lem p q = (
  λ e.
      let both = tests.0 e in
      ap₂ place (eqb-true p.inputs q.inputs both.0) (eqb-true p.outputs q.outputs both.1),
  λ e.
      tests.1 (
        eq-eqb p.inputs q.inputs (ap (λ (r : Place). r.inputs) e),
        eq-eqb p.outputs q.outputs (ap (λ (r : Place). r.outputs) e),
      ),
)
  where
    tests : (same_place p q ≡ true) ↔ ((eqb p.inputs q.inputs ≡ true) × (eqb p.outputs q.outputs ≡ true))
    tests = and-eq-true_iff (eqb p.inputs q.inputs) (eqb p.outputs q.outputs)

-- the test of a choice says what the sentence asks of the parts
composes : (p : Place) (parts : List Place)
    → (compose p parts ≡ true) ↔ ((2 ≤ length parts) × (pairwise non_overlapping parts ≡ true) × (join_all parts ≡ p))
unfolding compose
composes p parts = (
  λ e.
      let all = (and-eq-true_iff (leb 2 (length parts) && pairwise non_overlapping parts) (same_place (join_all parts) p)).0 e in
      let both = (and-eq-true_iff (leb 2 (length parts)) (pairwise non_overlapping parts)).0 all.0 in
      (leb-true 2 (length parts) both.0, both.1, (same_place_lem (join_all parts) p).0 all.1),
  λ h. rw (le-leb 2 (length parts) h.0, h.1, (same_place_lem (join_all parts) p).1 h.2),
)

-- a choice that composes a place is its parts
test_union : (words : List ℕ) (p : Place) → is_union words p ≡ true → UnionOf words p
unfolding is_union
test_union words p e =
    let found = any_member (compose p) (sublists (map place_of words)) e in
    let composed = (composes p found.0).0 found.2 in
    record {
      parts = found.0;
      several = composed.0;
      listed = sublist_members (map place_of words) found.1;
      apart = composed.1;
      joined = composed.2;
    }

-- the word of a place has 32 bits, and some bit
place_small : (w : ℕ) → place_under most_activities (place_of w) ≡ true → Small w
unfolding place_under below place_of
place_small w e =
    let outputs = ((and-eq-true_iff (through (place_of w) && below 16 (w % 65536)) (below 16 (w / 65536))).0 e).1 in
    omega (arith, ltb-true (w / 65536) 65536 outputs)

place_some : (w : ℕ) → place_under most_activities (place_of w) ≡ true → 0 < w
place_some w e = omega (arith, (word_halves w e).0)

module _ {words : List ℕ} (places : Listable words) where
  smalls : {ws : List ℕ} → Each (λ (w : ℕ). Memᴰ w words) ws → Each Small ws
  unfolding Listable
  smalls = each_imply λ w m. place_small w (each_member places m)

  somes : {ws : List ℕ} → Each (λ (w : ℕ). Memᴰ w words) ws → Each (λ (w : ℕ). 0 < w) ws
  unfolding Listable
  somes = each_imply λ w m. place_some w (each_member places m)

  -- the parts of a union cover its word
  union_cover : {p : Place} → UnionOf words p → (n : ℕ) × (p ≡ place_of n) × (0 < n) × Cover words n n
  union_cover u =
      let found = each_of_map place_of words u.listed in
      let ws = found.0 in
      let small = smalls found.1 in
      let some = somes found.1 in
      let many : 2 ≤ length ws = omega (arith, u.several, ap length found.2, length-map ws place_of) in
      let made = places_partition small (rw (sym found.2) at u.apart) in
      let n = made.0 in (
        n,
        sym u.joined ∙ ap join_all (sym found.2) ∙ (partition_places small n made.1).joined,
        whole_some some n (omega arith) made.1,
        partition_cover n found.1 (none_whole some n many made.1) made.1,
      )

  -- the words of a cover are a choice that passes the test
  cover_test : (n : ℕ) → 0 < n → Cover words n n → is_union words (place_of n) ≡ true
  unfolding is_union Listable
  cover_test n some cover =
      let choice = cover_choice (each_imply place_some places) cover in
      let ws = choice.taken in
      let as_places = partition_places (smalls (sublist_members words choice.chosen)) n choice.made in
      let many = several_parts ws n some choice.others choice.made in
      member_any
      (compose (place_of n))
      (sublist_map place_of words choice.chosen)
      ((composes (place_of n) (map place_of ws)).1 (omega (arith, length-map ws place_of), as_places.apart, as_places.joined))

  -- the test says what the sentence says
  pub union_test : (p : Place) → (is_union words p ≡ true) ↔ UnionOf words p
  union_test p = (
    test_union words p,
    λ u. let cover = union_cover u in rw cover.1 (cover_test cover.0 cover.2 cover.3),
  )

  -- a word of a place is redundant exactly if words of the list other than itself cover it
  pub redundant_cover : (w : ℕ) → place_under most_activities (place_of w) ≡ true → (redundant words w ≡ true) ↔ Cover words w w
  unfolding redundant
  redundant_cover w e = (
    λ test.
        let cover = union_cover (test_union words (place_of w) test) in
        let same : cover.0 ≡ w = sym (word_of_place cover.0) ∙ ap word (sym cover.1) ∙ word_of_place w in
        subst (λ (n : ℕ). Cover words n n) same cover.3,
    cover_test w (place_some w e),
  )
