-- A number's digits, read one after the other from the front of a slice: each one makes the number
-- of those before it 16 times as large and adds its value, which fits while there are no more digits
-- than 64 bits take. At a byte that is no digit, the slice writes none.
-- Assumes nothing.
use Rattle.std.specs.Prelude.{None, Some}
use Prim.Native.Nat.{ℕ, ◌+◌, ◌*◌, ◌^◌, ◌≤◌, ◌<◌}
use native.Mathlib.Nat.{pow-suc, mul_assoc}
use native.Mathlib.Numerals.{add-one}
use native.Mathlib.Omega.{arith}
use mathlib.Core.Path.{◌≡◌, refl}
use mathlib.Core.Bool.{false≢true}
use mathlib.Core.List.{List, [], ◌∷◌, ◌++◌}
use lib.ListN.{length, take, get_or, length-append}
use lib.Seq.{take-suc, take_all, length-take-le}
use Rattle.std.specs.List.{list_all}
use Rattle.foundation.proofs.laws.Booleans.{by_test}
use Rattle.std.proofs.lemmas.List.Folds.{list_all-append}
use Rattle.foundation.proofs.laws.Each.{all_at}
use Rattle.hex_digits.specs.Digits.{digit_of, is_digit, digit_value, read_hex, number_in, most_digits}
use Rattle.hex_digits.proofs.laws.DigitLaws.{digit_below}
use Rattle.hex_digits.proofs.laws.NumberLaws.{number_digits, number_below}

-- a digit more behind the others
pub read_snoc : (bytes : List ℕ) (byte : ℕ) → read_hex (bytes ++ (byte ∷ [])) ≡ 16 * read_hex bytes + digit_value byte
unfolding read_hex
read_snoc [] byte = omega arith
read_snoc (first ∷ bytes) byte =
    let P = 16 ^ length bytes in
    rw (length-append bytes (byte ∷ []), add-one (length bytes), pow-suc 16 (length bytes), ← mul_assoc (digit_value first) P 16, read_snoc bytes byte)
    (omega arith)

-- no digit is read
pub none_read : number_in [] ≡ Some 0
unfolding number_in read_hex
none_read = refl

-- the bytes before an index write a number
module _ (digits : List ℕ) (at number : ℕ) (less : at < length digits) (so_far : number_in (take at digits) ≡ Some number) where
  -- one digit more
  pub one_read : (value : ℕ) → digit_of (get_or digits at 0) ≡ Some value → number_in (take (at + 1) digits) ≡ Some (16 * number + value)
  unfolding is_digit number_in
  one_read value e =
      let before = number_digits (take at digits) number so_far in
      rw (
        add-one at,
        take-suc digits at 0 less,
        list_all-append is_digit (take at digits) (get_or digits at 0 ∷ []),
        before.digits,
        read_snoc (take at digits) (get_or digits at 0),
        before.number,
        e,
      )

  -- for which there is room
  pub one_fits : length digits ≤ most_digits → 16 * number + 15 < 2 ^ 64
  one_fits few =
      omega (arith, number_below (take at digits) number 15 so_far (omega (arith, length-take-le at digits (omega arith))))

  -- a byte that is no digit
  pub other_read : digit_of (get_or digits at 0) ≡ None → number_in digits ≡ None
  unfolding is_digit number_in
  other_read e =
      by_test
      (list_all is_digit digits)
      (λ t. absurd (false≢true (rw e at (all_at is_digit digits at 0 t less))))
      (λ f. rw f)

-- where the back is reached, the number is the one that the slice writes
pub all_read : (digits : List ℕ) (at number : ℕ) → number_in (take at digits) ≡ Some number → length digits ≤ at
    → number_in digits ≡ Some number
all_read digits at number so_far end = rw (take_all at digits end) at so_far

pub ruleset digits_read = (digit_below, none_read, one_read, one_fits, other_read)
