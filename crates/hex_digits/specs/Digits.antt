-- Hexadecimal digits, read and written. Document 01, "Settings and the log".
-- Assumes nothing.
use Rattle.std.specs.Prelude.{ℕ, zero, suc, ◌+◌, ◌-◌, ◌*◌, ◌/◌, ◌%◌, ◌^◌, Bool, cond, ◌&&◌, List, [], ◌∷◌, leb, ltb, length, Option, None, Some, is_some, unwrap_or}
use Rattle.std.specs.List.{list_all}

-- the bytes 0 to 9 (48 to 57) have the values 0 to 9, and A to F (65 to 70) the values 10 to 15; any
-- other byte has none
unfoldable pub digit_of : ℕ → Option ℕ
digit_of byte =
    cond (leb 48 byte && leb byte 57) (Some (byte - 48)) (cond (leb 65 byte && leb byte 70) (Some (byte - 55)) None)

-- the byte is a digit
unfoldable pub is_digit : ℕ → Bool
is_digit byte = is_some (digit_of byte)

-- the value of a byte as a digit; a byte that is none counts as 0, and stands in no accepted text
abbrev pub digit_value : ℕ → ℕ
digit_value byte = unwrap_or (digit_of byte) 0

-- the number that digits write, the highest first
unfoldable pub read_hex : List ℕ → ℕ
read_hex [] = 0
read_hex (byte ∷ bytes) = digit_value byte * 16 ^ length bytes + read_hex bytes

-- the number that bytes write as digits; none where one of them is no digit
unfoldable pub number_in : List ℕ → Option ℕ
number_in bytes = cond (list_all is_digit bytes) (Some (read_hex bytes)) None

-- the most digits whose numbers all have 64 bits
abbrev pub most_digits : ℕ
most_digits = 16

-- the byte that writes a value below 16
unfoldable pub digit_byte : ℕ → ℕ
digit_byte v = cond (ltb v 10) (48 + v) (55 + v)

-- the lowest k digits of n, the highest first
unfoldable pub write_hex : ℕ → ℕ → List ℕ
write_hex zero n = []
write_hex (suc k) n = digit_byte (n / 16 ^ k % 16) ∷ write_hex k n

-- byte 0A, which ends each line that is read or written
abbrev pub line_feed : ℕ
line_feed = 10
