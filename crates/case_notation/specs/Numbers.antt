-- Numbers of 32 bits in digits.
-- Assumes nothing.
use Rattle.std.specs.Prelude.{ℕ, ◌+◌, ◌*◌, ◌^◌, cond, ◌&&◌, Option, Some, None, List, [], ◌∷◌, eqb, ltb, length}
use Rattle.std.specs.Option.{option_and_then, unwrap_or}
use Rattle.hex_digits.specs.Digits.{digit_of}
use Rattle.case_notation.specs.Fields.{word_at}

-- 0 to 9 and A to F, or 16 of a byte that is no hexadecimal digit
abbrev pub digit_value : ℕ → ℕ
digit_value byte = unwrap_or (digit_of byte) 16

-- a number of 32 bits with one digit more, whose value is below the base
abbrev pub longer : ℕ → ℕ → ℕ → Option ℕ
longer base number byte =
    let sum = number * base + digit_value byte in cond (ltb (digit_value byte) base && ltb sum (2 ^ 32)) (Some sum) None

-- the number that a number and digits after it make
unfoldable pub continued : ℕ → ℕ → List ℕ → Option ℕ
continued base number [] = Some number
continued base number (d ∷ ds) = option_and_then (λ n. continued base n ds) (longer base number d)

-- the number that digits write to a base
abbrev pub number_of : ℕ → List ℕ → Option ℕ
number_of base digits = cond (eqb (length digits) 0) None (continued base 0 digits)

-- the decimal number that a word of a line is
abbrev pub number_at : ℕ → List ℕ → Option ℕ
number_at index line = number_of 10 (word_at index line)
