-- The highest code h of a set that is not empty: the set is at least 2 to the power h and below
-- twice that. No other code is so, since powers of two grow; and as doubling a set doubles both
-- bounds, it makes the highest code one more.
-- Assumes nothing.
use Prim.Native.Nat.{ℕ, suc, ◌+◌, ◌-◌, ◌*◌, ◌%◌, ◌^◌, ◌≤◌, ◌<◌}
use native.Mathlib.Omega.{arith}
use native.Mathlib.Nat.{one-mul, mod-eq_of_lt, pow-suc, lt_of_lt_of_le, le_antisymm}
use mathlib.Core.Path.{◌≡◌, refl, ap, subst, ◌∙◌}
use lib.Dec.{leb}
use lib.Pow.{pow_pos, pow_mono, pow-lt}
use lib.Count.{count_leading_zeros, leading_top}
use borrow.Author.Tests.{leb-true, leb-false}
use Rattle.foundation.proofs.laws.Booleans.{by_test}

-- the highest code of a set of 16 bits that has one
unfoldable pub highest : ℕ → ℕ
highest s = 15 - count_leading_zeros 16 s

-- h is the highest code of s
abbrev pub HighestCode : ℕ → ℕ → Type 0
HighestCode h s = (h < 16) × (2 ^ h ≤ s) × (s < 2 ^ suc h)

-- of the set of code 0 alone
pub highest_one : highest 1 ≡ 0
unfolding highest count_leading_zeros
highest_one = refl

-- it is one, and a set has no other
pub highest_code : (s : ℕ) → 0 < s → s < 2 ^ 16 → HighestCode (highest s) s
unfolding highest
highest_code s some small =
    let (j, count, has, above) = leading_top 16 s some small in
    subst (λ (h : ℕ). HighestCode h s) (omega arith) (omega arith, has, above)

highest_le : (j h s : ℕ) → 2 ^ j ≤ s → s < 2 ^ suc h → j ≤ h
highest_le j h s has above =
    by_test
    (leb j h)
    (leb-true j h)
    (λ e. absurd (omega (arith, pow_mono {i = suc h} {j = j} (leb-false j h e))))

pub highest_is : (h s : ℕ) → HighestCode h s → highest s ≡ h
highest_is h s (named, has, above) =
    let (_, has', above') = highest_code s (omega (arith, pow_pos h)) (lt_of_lt_of_le above (pow_mono named)) in
    le_antisymm (highest_le (highest s) h s has' above) (highest_le h (highest s) s has above')

-- with each code one more, without code 0 or with it
module _ (t : ℕ) (some : 0 < t) (small : t < 32768) where
  raised_code : (s : ℕ) → 2 * t ≤ s → s ≤ 2 * t + 1 → highest s ≡ suc (highest t)
  raised_code s least most =
      let h = highest t in
      let (named, has, above) = highest_code t some (omega arith) in
      highest_is (suc h) s (
        omega (arith, highest_le h 14 t has (omega arith)),
        omega (arith, pow-suc 2 h),
        omega (arith, pow-suc 2 (suc h)),
      )

  pub highest_raised : highest (2 * t) ≡ suc (highest t)
  highest_raised = raised_code (2 * t) (omega arith) (omega arith)

  pub highest_raised_zero : highest (2 * t + 1) ≡ suc (highest t)
  highest_raised_zero = raised_code (2 * t + 1) (omega arith) (omega arith)

-- the bit of a code that a set of 16 bits can name
pub bit_value : (h : ℕ) → h < 16 → 1 * 2 ^ h % 65536 ≡ 2 ^ h
bit_value h named = ap (λ (x : ℕ). x % 65536) (one-mul (2 ^ h)) ∙ mod-eq_of_lt (pow-lt named)

-- a set with the bit of the next code added, where that code can be named
pub added_fits : (h s : ℕ) → HighestCode h s → suc h < 16 → s + 2 ^ suc h < 65536
added_fits h s code room = omega (arith, pow-suc 2 (suc h), pow_mono {i = suc (suc h)} {j = 16} room)
