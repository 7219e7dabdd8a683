-- Places and their words. Two sets are disjoint exactly if they share no bit, and their union then
-- is their sum, since a set is the sum of the powers of 2 for its codes. So two places are
-- non-overlapping exactly if their words share no bit, and then the sum is the word of their union.
-- Assumes nothing.
use Prim.Native.Nat.{ℕ, zero, suc, ◌+◌, ◌*◌, ◌/◌, ◌%◌, ◌^◌, ◌<◌, min}
use native.Mathlib.Omega.{arith}
use native.Mathlib.Nat.{zero-div, mod-one}
use mathlib.Core.Path.{◌≡◌, sym, ap, ap₂, ◌∙◌}
use mathlib.Core.Logic.{◌↔◌}
use mathlib.Core.Bool.{true, cond, not, ◌||◌, and-eq-true_iff}
use mathlib.Core.List.{[], ◌∷◌, map}
use lib.Bits.{bit_and, and_shr, and_mod, and_le_l}
use lib.Dec.{eqb}
use lib.Pow.{mod-pow-add}
use borrow.Author.Tests.{eqb-true, eqb-false, ne_eqb, not-true}
use Rattle.foundation.specs.Lists.{sum, up_to}
use Rattle.std.specs.List.{filter}
use Rattle.foundation.proofs.laws.Any.{not_any}
use Rattle.foundation.proofs.laws.Booleans.{by_test}
use Rattle.foundation.proofs.laws.Sums.{sum_append, sum_add, sum_filter}
use Rattle.limits.specs.Settings.{most_activities}
use Rattle.places.specs.Sets.{has, member, codes, disjoint, union}
use Rattle.places.specs.Places.{place, word, place_of, non_overlapping, join}
use Rattle.places.proofs.laws.Lighter.{codes_all}
use Rattle.places.proofs.laws.SetBits.{has_and, same_codes}
use Rattle.reduction_spec.proofs.laws.Sharing.{apart_small}

no_code : (a : ℕ) → has 0 a ≡ 0
no_code a = rw (zero-div (2 ^ a))

module _ (s t : ℕ) where
  -- sets share no bit where they share no code
  apart_codes : bit_and s t ≡ 0 → (a : ℕ) → min (has s a) (has t a) ≡ 0
  apart_codes e a = sym (has_and s t a) ∙ rw e (no_code a)

  codes_apart : s < 65536 → ((a : ℕ) → a < most_activities → min (has s a) (has t a) ≡ 0) → bit_and s t ≡ 0
  codes_apart small apart =
      same_codes most_activities (bit_and s t) 0 (omega (arith, and_le_l s t)) (omega arith) λ a l. omega (arith, has_and s t a, no_code a, apart a l)

  disjoint_codes : (disjoint s t ≡ true) ↔ ((a : ℕ) → a < most_activities → member s a ≡ true → not (member t a) ≡ true)
  unfolding disjoint
  disjoint_codes = rw (not_any (member t) (codes s)) (codes_all (λ (a : ℕ). not (member t a)) s)

  disjoint_apart : s < 65536 → (disjoint s t ≡ true) ↔ (bit_and s t ≡ 0)
  disjoint_apart small = (
    λ e. codes_apart small λ a l.
        by_test
        (member s a)
        (λ m. omega (arith, eqb-false (has t a) 1 (not-true (member t a) (disjoint_codes.0 e a l m))))
        (λ m. omega (arith, eqb-false (has s a) 1 m)),
    λ e. disjoint_codes.1 λ a l m. rw (ne_eqb (has t a) 1 (omega (arith, apart_codes e a, eqb-true (has s a) 1 m))),
  )

-- a set is the sum of the powers of 2 for its codes
codes_sum : (k s : ℕ) → sum (map (λ (a : ℕ). has s a * 2 ^ a) (up_to k)) ≡ s % 2 ^ k
codes_sum zero s = sym (mod-one s)
codes_sum (suc k) s =
    let more : 1 + k ≡ suc k = omega arith in
    omega (
      arith,
      sum_append (λ (a : ℕ). has s a * 2 ^ a) (up_to k) (k ∷ []),
      codes_sum k s,
      mod-pow-add s 1 k,
      ap (λ (m : ℕ). s % 2 ^ m) more,
    )

-- a code of one of two sets counts as often as in both together, where it is not in both
counted : (x y n : ℕ) → min x y ≡ 0 → x < 2 → y < 2 → x * n + y * n ≡ cond (eqb x 1 || eqb y 1) n 0
counted zero zero n e l m = omega arith
counted zero (suc zero) n e l m = omega arith
counted zero (suc (suc y)) n e l m = omega arith
counted (suc zero) zero n e l m = omega arith
counted (suc zero) (suc y) n e l m = omega arith
counted (suc (suc x)) y n e l m = omega arith

module _ (s t : ℕ) (e : bit_and s t ≡ 0) where
  either_sum : (k : ℕ) → sum (map (λ (a : ℕ). 2 ^ a) (filter (λ (a : ℕ). member s a || member t a) (up_to k))) ≡ s % 2 ^ k + t % 2 ^ k
  either_sum k =
      sum_filter (λ (a : ℕ). 2 ^ a) (λ (a : ℕ). member s a || member t a) (up_to k)
      ∙ sym
      (sum_add
      (λ (a : ℕ). has s a * 2 ^ a)
      (λ (a : ℕ). has t a * 2 ^ a)
      (λ (a : ℕ). cond (member s a || member t a) (2 ^ a) 0)
      (λ a. counted (has s a) (has t a) (2 ^ a) (apart_codes s t e a) (omega arith) (omega arith))
      (up_to k))
      ∙ ap₂ ◌+◌ (codes_sum k s) (codes_sum k t)

  apart_union : s < 65536 → t < 65536 → union s t ≡ s + t
  unfolding union
  apart_union small_s small_t = either_sum most_activities ∙ omega arith

-- a word is read back from its place
pub word_of_place : (w : ℕ) → word (place_of w) ≡ w
unfolding word place_of
word_of_place w = omega arith

module _ (v w : ℕ) where
  -- words share no bit where the sets of their places share none
  halves_apart : (bit_and v w ≡ 0) ↔ ((bit_and (v % 65536) (w % 65536) ≡ 0) × (bit_and (v / 65536) (w / 65536) ≡ 0))
  halves_apart = omega (arith, and_mod v w 16, and_shr v w 16)

  pub places_apart : v < 2 ^ 32 → (non_overlapping (place_of v) (place_of w) ≡ true) ↔ (bit_and v w ≡ 0)
  unfolding non_overlapping place_of
  places_apart small = (
    λ e. let both = tests.0 e in halves_apart.1 (inputs.0 both.0, outputs.0 both.1),
    λ e. let both = halves_apart.0 e in tests.1 (inputs.1 both.0, outputs.1 both.1),
  )
    where
      tests : (non_overlapping (place_of v) (place_of w) ≡ true)
          ↔ ((disjoint (v % 65536) (w % 65536) ≡ true) × (disjoint (v / 65536) (w / 65536) ≡ true))
      tests = and-eq-true_iff (disjoint (v % 65536) (w % 65536)) (disjoint (v / 65536) (w / 65536))

      inputs : (disjoint (v % 65536) (w % 65536) ≡ true) ↔ (bit_and (v % 65536) (w % 65536) ≡ 0)
      inputs = disjoint_apart (v % 65536) (w % 65536) (omega arith)

      outputs : (disjoint (v / 65536) (w / 65536) ≡ true) ↔ (bit_and (v / 65536) (w / 65536) ≡ 0)
      outputs = disjoint_apart (v / 65536) (w / 65536) (omega arith)

  pub join_apart : v < 2 ^ 32 → w < 2 ^ 32 → bit_and v w ≡ 0 → join (place_of v) (place_of w) ≡ place_of (v + w)
  unfolding join place_of
  join_apart small_v small_w e =
      let both = halves_apart.0 e in
      let no_carry = apart_small 16 (v % 65536) (w % 65536) (omega arith) (omega arith) both.0 in
      ap₂
      place
      (apart_union (v % 65536) (w % 65536) both.0 (omega arith) (omega arith) ∙ omega arith)
      (apart_union (v / 65536) (w / 65536) both.1 (omega arith) (omega arith) ∙ omega arith)
