-- What a range of words gives: its words, one after the other.
-- Assumes nothing.
use Rattle.std.proofs.Common.{ℕ, zero, suc, ◌+◌, ◌-◌, ◌^◌, ◌≡◌, ◌<◌, true, false, List, ap, subst, refl, arith}
use Rattle.std.specs.declared.ops.RangeInclusive.{RangeInclusive}
use Rattle.std.specs.Iterator.{AlwaysYields}
use Rattle.std.specs.List.{range_with_len}
use Rattle.std.specs.Range.{range_inclusive_start, range_inclusive_end, range_inclusive_exhausted, range_inclusive_left, range_inclusive_len}
use Rattle.std.proofs.iter.runs.Sources.{nat_range_inclusive_steps}
use Rattle.std.proofs.lemmas.Iterator.{YieldsList}
use Rattle.foundation.proofs.laws.Booleans.{by_test}
use Rattle.case_notation.specs.WordLists.{between, ends, run_meant}

-- how many words are left
abbrev left : RangeInclusive ℕ → ℕ
left s = range_inclusive_left (λ first last. last - first) s

module _ (s : RangeInclusive ℕ) where
  all_left : range_inclusive_exhausted s ≡ false → left s ≡ range_inclusive_end s + 1 - range_inclusive_start s
  all_left whole =
      omega (arith, ap (range_inclusive_len (λ first last. last - first) (range_inclusive_start s) (range_inclusive_end s)) whole)

  none_left : range_inclusive_exhausted s ≡ true → left s ≡ 0
  none_left spent = ap (range_inclusive_len (λ first last. last - first) (range_inclusive_start s) (range_inclusive_end s)) spent

  pub few_left : range_inclusive_end s < 2 ^ 32 → left s < 2 ^ 64
  few_left small =
      by_test (range_inclusive_exhausted s)
      (λ t. omega (arith, none_left t))
      (λ f. omega (arith, all_left f))

-- the words after the first
others : (n first : ℕ) (s : RangeInclusive ℕ) → left s ≡ n → (range_inclusive_exhausted s ≡ false → range_inclusive_start s ≡ first)
    → range_with_len (range_inclusive_start s) n ≡ range_with_len first n
others zero first s e begins = refl
others (suc n) first s e begins =
    by_test (range_inclusive_exhausted s)
    (λ t. absurd (omega (arith, e, none_left s t)))
    (λ f. ap (λ (a : ℕ). range_with_len a (suc n)) (begins f))

gives : (n : ℕ) (s : RangeInclusive ℕ) → left s ≡ n → AlwaysYields nat_range_inclusive_steps (λ x. x) s (range_with_len (range_inclusive_start s) n)
gives zero s e = λ x j step. omega (arith, e, step.1.1)
gives (suc n) s e = (
  λ j step. omega (arith, e, step.1.0),
  λ x j step.
      let fewer : left j ≡ n = omega (arith, e, step.1.1) in
      (step.1.0, subst (AlwaysYields nat_range_inclusive_steps (λ x. x) j) (others n (range_inclusive_start s + 1) j fewer step.1.2) (gives n j fewer)),
)

pub run_gives : (run : List ℕ) (s : RangeInclusive ℕ) → (range_inclusive_start s, range_inclusive_end s) ≡ ends run → range_inclusive_exhausted s ≡ false
    → YieldsList nat_range_inclusive_steps (λ x. x) s (run_meant run)
run_gives run s e whole =
    record {
      runs = subst (λ (p : ℕ × ℕ). AlwaysYields nat_range_inclusive_steps (λ x. x) s (between p.0 p.1)) e (gives _ s (all_left s whole));
    }
