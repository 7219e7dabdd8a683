-- The lowest digits stand from the index on, and the rest of the number is what is above them.
-- Assumes nothing.
use Rattle.hex_digits.proofs.laws.DigitsFromBack.{WrittenFrom}
use Rattle.hex_digits.proofs.hex.write_hex.Given as goal

abbrev pub invariant-loop-at : goal.invariant-loop-at
invariant-loop-at l = WrittenFrom l.number l.initial.text l.text l.rest l.at
