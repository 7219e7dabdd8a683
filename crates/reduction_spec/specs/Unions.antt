-- A place that is a union of at least two non-overlapping places of a list: once as a sentence says
-- it, once as a test that computes. Document 01, "Thinning and writing"; the source's Definition 9,
-- which is content with one part.
-- Assumes nothing.
use Rattle.std.specs.Prelude.{ℕ, ◌≤◌, ◌≡◌, Bool, true, ◌&&◌, eqb, leb, length}
use mathlib.Core.List.{List, [], ◌∷◌, map, Memᴰ}
use Rattle.foundation.specs.Lists.{Each, pairwise, sublists}
use Rattle.std.specs.List.{list_any}
use Rattle.places.specs.declared.Place.{Place}
use Rattle.places.specs.Places.{place, place_of, non_overlapping, join}

-- the union of places: the inputs of all and the outputs of all
unfoldable pub join_all : List Place → Place
join_all [] = place 0 0
join_all (p ∷ ps) = join p (join_all ps)

-- p is a union of at least two places of the list, and no two of these overlap
pub record UnionOf (words : List ℕ) (p : Place) : Type 0 where
  pub parts : List Place
  pub several : 2 ≤ length parts
  pub listed : Each (λ (q : Place). Memᴰ q (map place_of words)) parts
  pub apart : pairwise non_overlapping parts ≡ true
  pub joined : join_all parts ≡ p

-- two places are equal
unfoldable pub same_place : Place → Place → Bool
same_place p q = eqb p.inputs q.inputs && eqb p.outputs q.outputs

-- these places are at least two, no two overlap, and their union is p
unfoldable pub compose : Place → List Place → Bool
compose p parts = leb 2 (length parts) && pairwise non_overlapping parts && same_place (join_all parts) p

-- the same as a test: some choice of the list's places composes p
unfoldable pub is_union : List ℕ → Place → Bool
is_union words p = list_any (compose p) (sublists (map place_of words))
