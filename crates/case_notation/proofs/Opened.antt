-- One name for all definitions of the table's notation: a proof by computation says
-- `unfolding opened`.
-- Assumes nothing.
use Rattle.hex_digits.specs.Digits.{digit_of}
use Rattle.case_notation.specs.Fields.{rest_after, parts_of}
use Rattle.case_notation.specs.Numbers.{continued}
use Rattle.case_notation.specs.Runs.{further, run_length}

unfoldable pub opened : Unit {0}
unfolding rest_after parts_of digit_of continued further run_length
opened = tt
