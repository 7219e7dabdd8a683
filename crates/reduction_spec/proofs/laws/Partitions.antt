-- Words that make up a whole: taken away from it one after the other, they leave nothing. Their
-- places then are non-overlapping, and the place of the whole is their union; and the words of
-- non-overlapping places make up some whole. Where each of the words has a bit, they are two or
-- more exactly if none of them is the whole.
-- Assumes nothing.
use Prim.Native.Nat.{ℕ, ◌+◌, ◌-◌, ◌^◌, ◌≤◌, ◌<◌}
use native.Mathlib.Omega.{arith}
use mathlib.Core.Path.{◌≡◌, refl, ap, ◌∙◌}
use mathlib.Core.Logic.{◌↔◌}
use mathlib.Core.Bool.{true, and-eq-true_iff}
use mathlib.Core.List.{List, [], ◌∷◌, map}
use lib.Bits.{bit_and, and_zero_r}
use lib.ListN.{length}
use Rattle.foundation.specs.Lists.{Each, each_nil, each_cons, pairwise}
use Rattle.std.specs.List.{list_all}
use Rattle.foundation.proofs.laws.Lists.{each_head}
use Rattle.foundation.proofs.laws.Each.{each_imply}
use Rattle.places.specs.Places.{place_of, non_overlapping, join}
use Rattle.reduction_spec.specs.Unions.{join_all}
use Rattle.reduction_spec.proofs.laws.Parts.{Part, part_le}
use Rattle.reduction_spec.proofs.laws.PlaceWords.{places_apart, join_apart}
use Rattle.reduction_spec.proofs.laws.Sharing.{apart_part, apart_small, part_apart, apart_both}

-- each of the words is a part of what those before it leave, and the last leaves nothing
abbrev pub Partition : List ℕ → ℕ → Type 0
Partition [] n = n ≡ 0
Partition (w ∷ ws) n = Part w n × Partition ws (n - w)

-- of 32 bits
abbrev pub Small : ℕ → Type 0
Small w = w < 2 ^ 32

-- a place overlaps none of the words' places exactly if its word shares no bit with the whole
apart_all : (v : ℕ) → Small v → (ws : List ℕ) (n : ℕ) → Partition ws n
    → (list_all (non_overlapping (place_of v)) (map place_of ws) ≡ true) ↔ (bit_and v n ≡ 0)
apart_all v small [] n made = (λ e. rw made (and_zero_r v), λ e. refl)
apart_all v small (w ∷ ws) n made =
    let rest = apart_all v small ws (n - w) made.1 in (
      λ e. let both = tests.0 e in (apart_both v w n made.0).1 ((places_apart v w small).0 both.0, rest.0 both.1),
      λ e. let both = (apart_both v w n made.0).0 e in tests.1 ((places_apart v w small).1 both.0, rest.1 both.1),
    )
  where
    tests : (list_all (non_overlapping (place_of v)) (map place_of (w ∷ ws)) ≡ true)
        ↔ ((non_overlapping (place_of v) (place_of w) ≡ true) × (list_all (non_overlapping (place_of v)) (map place_of ws) ≡ true))
    tests = and-eq-true_iff (non_overlapping (place_of v) (place_of w)) (list_all (non_overlapping (place_of v)) (map place_of ws))

-- the places of words that make up a whole of 32 bits are non-overlapping, and their union is its place
pub record Places (ws : List ℕ) (n : ℕ) : Type 0 where
  pub small : Small n
  pub joined : join_all (map place_of ws) ≡ place_of n
  pub apart : pairwise non_overlapping (map place_of ws) ≡ true

pub partition_places : {ws : List ℕ} → Each Small ws → (n : ℕ) → Partition ws n → Places ws n
unfolding join_all place_of
partition_places each_nil n made = record { small = omega arith; joined = rw made; apart = refl }
partition_places (each_cons {x = w} {xs = ws} here later) n made =
    let rest = partition_places later (n - w) made.1 in
    let clear = part_apart w n made.0 in
    let whole : w + (n - w) ≡ n = omega (arith, part_le w n made.0) in
    record {
      small = rw whole at (apart_small 32 w (n - w) here rest.small clear);
      joined = ap (join (place_of w)) rest.joined ∙ join_apart w (n - w) here rest.small clear ∙ ap place_of whole;
      apart =
          (and-eq-true_iff (list_all (non_overlapping (place_of w)) (map place_of ws)) (pairwise non_overlapping (map place_of ws))).1
          ((apart_all w here ws (n - w) made.1).1 clear, rest.apart);
    }

-- non-overlapping places are those of words that make up a whole, their sum
pub places_partition : {ws : List ℕ} → Each Small ws → pairwise non_overlapping (map place_of ws) ≡ true → (n : ℕ) × Partition ws n
places_partition each_nil e = (0, refl)
places_partition (each_cons {x = w} {xs = ws} here later) e =
    let both = (and-eq-true_iff (list_all (non_overlapping (place_of w)) (map place_of ws)) (pairwise non_overlapping (map place_of ws))).0 e in
    let rest = places_partition later both.1 in
    let left : w + rest.0 - w ≡ rest.0 = omega arith in
    (w + rest.0, (apart_part w rest.0 ((apart_all w here ws rest.0 rest.1).0 both.0), rw left rest.1))

-- the whole is no smaller than any of the words
parts_le : (ws : List ℕ) (n : ℕ) → Partition ws n → Each (λ (w : ℕ). w ≤ n) ws
parts_le [] n made = each_nil
parts_le (w ∷ ws) n made = each_cons (part_le w n made.0) (each_imply (λ v e. omega arith) (parts_le ws (n - w) made.1))

-- and has a bit where one of them does
pub whole_some : {ws : List ℕ} → Each (λ (w : ℕ). 0 < w) ws → (n : ℕ) → 0 < length ws → Partition ws n → 0 < n
whole_some each_nil n nonempty made = absurd (omega arith)
whole_some (each_cons {x = w} here later) n nonempty made = omega (arith, part_le w n made.0)

-- of two or more words with a bit none is the whole, since there is another that takes something
pub none_whole : {ws : List ℕ} → Each (λ (w : ℕ). 0 < w) ws → (n : ℕ) → 2 ≤ length ws → Partition ws n → Each (λ (w : ℕ). w ≡ n → ⊥) ws
none_whole each_nil n many made = absurd (omega arith)
none_whole (each_cons here each_nil) n many made = absurd (omega arith)
none_whole (each_cons {x = w} here (each_cons {x = v} {xs = ws} next later)) n many made =
    let first = part_le w n made.0 in
    each_cons
    {x = w}
    (omega (arith, part_le v (n - w) made.1.0))
    (each_imply (λ u e. omega arith) (parts_le (v ∷ ws) (n - w) made.1))

-- and where none of them is the whole, which has a bit, one is not enough
pub several_parts : (ws : List ℕ) (n : ℕ) → 0 < n → Each (λ (w : ℕ). w ≡ n → ⊥) ws → Partition ws n → 2 ≤ length ws
several_parts [] n some others made = omega arith
several_parts (w ∷ []) n some others made = absurd (each_head others (omega (arith, part_le w n made.0)))
several_parts (w ∷ (v ∷ ws)) n some others made = omega arith
