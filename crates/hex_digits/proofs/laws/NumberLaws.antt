-- What bytes write as a number: all of them are digits and it is theirs, or one is none. Each way
-- follows from the answer and gives it.
-- Assumes nothing.
use Rattle.std.specs.Prelude.{None, Some}
use Prim.Native.Nat.{ℕ, ◌^◌, ◌≤◌, ◌<◌}
use native.Mathlib.Nat.{pow-le-pow_right}
use native.Mathlib.Omega.{arith}
use mathlib.Core.Path.{◌≡◌}
use mathlib.Core.Bool.{true, false}
use mathlib.Core.List.{List}
use lib.Dec.{lit<}
use lib.ListN.{length}
use Rattle.std.specs.List.{list_all}
use Rattle.foundation.proofs.laws.Booleans.{by_test, impossible}
use Rattle.hex_digits.specs.Digits.{is_digit, read_hex, number_in}
use Rattle.hex_digits.proofs.laws.DigitLaws.{read_small}

-- bytes that are digits, and the number that they write
pub record Digits (bytes : List ℕ) (n : ℕ) : Type 0 where
  pub digits : list_all is_digit bytes ≡ true
  pub number : read_hex bytes ≡ n

module _ (bytes : List ℕ) where
  pub digits_number : list_all is_digit bytes ≡ true → number_in bytes ≡ Some (read_hex bytes)
  unfolding number_in
  digits_number e = rw e

  pub others_no_number : list_all is_digit bytes ≡ false → number_in bytes ≡ None
  unfolding number_in
  others_no_number e = rw e

  pub number_digits : (n : ℕ) → number_in bytes ≡ Some n → Digits bytes n
  unfolding number_in
  number_digits n e =
      by_test
      (list_all is_digit bytes)
      (λ f. record { digits = f; number = let g = rw f at e in cc })
      (λ f. let g = rw f at e in impossible (cc))

  -- a number of at most k digits
  pub number_below : (n k : ℕ) → number_in bytes ≡ Some n → length bytes ≤ k → n < 16 ^ k
  number_below n k e few =
      let most : 16 ^ length bytes ≤ 16 ^ k = pow-le-pow_right (lit< tt) few in
      omega (arith, (number_digits n e).number, read_small bytes, most)

  pub no_number_others : number_in bytes ≡ None → list_all is_digit bytes ≡ false
  unfolding number_in
  no_number_others e =
      by_test
      (list_all is_digit bytes)
      (λ f. let g = rw f at e in impossible (cc))
      (λ f. f)
