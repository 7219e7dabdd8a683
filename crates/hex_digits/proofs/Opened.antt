-- One name for all definitions of this layer: a proof by computation says `unfolding opened`.
-- Assumes nothing.
use Rattle.hex_digits.specs.Digits.{digit_of, is_digit, read_hex, number_in, digit_byte, write_hex}

unfoldable pub opened : Unit {0}
unfolding digit_of is_digit read_hex number_in digit_byte write_hex
opened = tt
