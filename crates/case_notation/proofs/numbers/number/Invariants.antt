-- The number and the digits that are left make the number of all digits.
-- Assumes nothing.
use Rattle.std.proofs.Common.{◌≡◌, drop}
use Rattle.case_notation.specs.Numbers.{continued}
use Rattle.case_notation.proofs.numbers.number.Given as goal

abbrev pub invariant-loop-byte : goal.invariant-loop-byte
invariant-loop-byte l = continued l.base l.number (drop l.byte-index l.digits) ≡ continued l.base 0 l.digits
