-- What the pieces so far stand for fills the front of the buffer, and what the others stand for is
-- left.
-- Assumes nothing.
use Rattle.std.specs.List.{flat_map}
use Rattle.case_notation.specs.Fields.{parts_of}
use Rattle.case_notation.specs.Texts.{copies, bytes_meant, text_meant}
use Rattle.case_notation.proofs.laws.FilledParts.{FilledSoFar}
use Rattle.case_notation.proofs.texts.unfold.Given as goal

abbrev pub invariant-loop-piece : goal.invariant-loop-piece
invariant-loop-piece l =
    let pieces = parts_of l.piece-iterator.separator l.piece-iterator.rest.now in
    FilledSoFar l.fn.buffer (text_meant l.text) (bytes_meant (flat_map copies pieces)) l.buffer l.count
