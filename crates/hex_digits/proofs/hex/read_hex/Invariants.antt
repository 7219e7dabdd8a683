-- The bytes before the index write the number.
-- Assumes nothing.
use Rattle.std.specs.Prelude.{◌≡◌, take, Some}
use Rattle.hex_digits.specs.Digits.{number_in}
use Rattle.hex_digits.proofs.hex.read_hex.Given as goal

abbrev pub invariant-loop-byte : goal.invariant-loop-byte
invariant-loop-byte l = number_in (take l.byte-index l.digits) ≡ Some l.number
