-- The highest bit of a number: where the number is at least a power of two and below twice that, it
-- has that bit. A number below a power of two has no bit from there on.
-- Assumes nothing.
use Prim.Native.Nat.{ℕ, ◌*◌, ◌^◌, ◌≤◌, ◌<◌}
use native.Mathlib.Omega.{arith}
use native.Mathlib.Nat.{le-div_iff_mul-le, div-lt_iff_lt-mul, div-eq_of_lt, lt_of_lt_of_le, one-mul}
use mathlib.Core.Path.{◌≡◌}
use lib.Pow.{pow_pos, pow_mono}
use Rattle.places.specs.Sets.{has}

-- a number of k bits has none from k on
pub no_bit : (n k b : ℕ) → n < 2 ^ k → k ≤ b → has n b ≡ 0
no_bit n k b small wide = omega (arith, div-eq_of_lt (lt_of_lt_of_le small (pow_mono {i = k} {j = b} wide)))

pub highest_bit : (n j : ℕ) → 2 ^ j ≤ n → n < 2 * 2 ^ j → has n j ≡ 1
highest_bit n j reached above =
    omega (
      arith,
      (le-div_iff_mul-le {x = 1} {y = n} (pow_pos j)).1 (omega (arith, one-mul (2 ^ j))),
      (div-lt_iff_lt-mul {x = n} {y = 2} (pow_pos j)).1 above,
    )
