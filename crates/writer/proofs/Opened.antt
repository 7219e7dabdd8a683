-- One name for all definitions of this layer and of those below it: a proof by computation says
-- `unfolding opened`.
-- Assumes nothing.
use Rattle.writer.specs.Writing.{place_line, list_text, writing_refusal, written, written_after}
use Rattle.places.proofs.Opened.{opened as opened_places}
use Rattle.hex_digits.proofs.Opened.{opened as opened_digits}

unfoldable pub opened : Unit {0}
unfolding place_line list_text writing_refusal written written_after opened_places opened_digits
opened = tt
