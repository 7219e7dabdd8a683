-- A set by its codes: halving it takes its lowest code away and makes each other code one less, the
-- bits that two sets share are the codes of both, the bits of both together those of either, and
-- two sets with the same codes are equal.
-- Assumes nothing.
use Prim.Native.Nat.{ℕ, zero, suc, ◌/◌, ◌%◌, ◌^◌, ◌<◌, min, max}
use native.Mathlib.Omega.{arith}
use native.Mathlib.Nat.{div-div-eq-div-mul, pow-succ', pow-suc}
use mathlib.Core.Path.{◌≡◌, sym, ap, ◌∙◌}
use lib.Bits.{bit_and, bit_or, and_step, and_shr, or_step, or_shr}
use Rattle.places.specs.Sets.{has}

-- a code above 0 is in a set if the code below it is in the set's half
pub has_half : (t a : ℕ) → has t (suc a) ≡ has (t / 2) a
has_half t a = rw pow-succ' (ap (λ (q : ℕ). q % 2) (sym (div-div-eq-div-mul t 2 (2 ^ a))))

-- a code stands in the common bits where it stands in both sets
pub has_and : (s t a : ℕ) → has (bit_and s t) a ≡ min (has s a) (has t a)
has_and s t a = rw (and_shr s t a) (omega (arith, and_step (s / 2 ^ a) (t / 2 ^ a)))

-- and in the bits of both together where it stands in one of them
pub has_or : (s t a : ℕ) → has (bit_or s t) a ≡ max (has s a) (has t a)
has_or s t a = rw (or_shr s t a) (omega (arith, or_step (s / 2 ^ a) (t / 2 ^ a)))

-- two sets of codes below k with the same codes are equal
pub same_codes : (k s t : ℕ) → s < 2 ^ k → t < 2 ^ k → ((a : ℕ) → a < k → has s a ≡ has t a) → s ≡ t
same_codes zero s t hs ht same = omega arith
same_codes (suc k) s t hs ht same =
    omega (
      arith,
      same 0 (omega arith),
      same_codes k (s / 2) (t / 2) (omega (arith, pow-suc 2 k)) (omega (arith, pow-suc 2 k)) λ a l.
          sym (has_half s a) ∙ same (suc a) (omega arith) ∙ has_half t a,
    )
