-- The definitions of digits, tried on the first and the last of them, on the bytes beside those,
-- and on short numbers.
-- Assumes nothing.
use Rattle.std.specs.Prelude.{None, Some}
use mathlib.Core.Path.{◌≡◌, refl}
use mathlib.Core.List.{[], ◌∷◌, map}
use lib.ListN.{replicate}
use Rattle.foundation.specs.Text.{bytes}
use Rattle.hex_digits.specs.Digits.{digit_of, read_hex, number_in, write_hex}
use Rattle.hex_digits.proofs.Opened.{opened}

pub record DigitExamples : Type 0 where
  pub digits : map digit_of (bytes "09AF") ≡ Some 0 ∷ Some 9 ∷ Some 10 ∷ Some 15 ∷ []
  pub others : map digit_of (bytes "/:@Gaf") ≡ map digit_of (replicate 6 0)
  pub no_digit : digit_of 0 ≡ None
  pub read : read_hex (bytes "01FA") ≡ 506
  pub written : write_hex 4 506 ≡ bytes "01FA"
  pub number : number_in (bytes "1F") ≡ Some 31
  pub longest : number_in (bytes "FFFFFFFFFFFFFFFF") ≡ Some 18446744073709551615
  pub none : number_in [] ≡ Some 0
  pub no_number : number_in (bytes "1\n") ≡ None
  pub no_number_first : number_in (bytes "g1") ≡ None

pub digit_examples : DigitExamples
unfolding opened
digit_examples =
    record {
      digits = refl;
      others = refl;
      no_digit = refl;
      read = refl;
      written = refl;
      number = refl;
      longest = refl;
      none = refl;
      no_number = refl;
      no_number_first = refl;
    }
