-- The lines of the words before the index stand in front of the buffer.
-- Assumes nothing.
use Rattle.foundation.proofs.laws.Blocks.{BlocksSo}
use Rattle.writer.specs.Writing.{line_bytes, place_line}
use Rattle.writer.proofs.write_lines.Given as goal

abbrev pub invariant-loop-word : goal.invariant-loop-word
invariant-loop-word l = BlocksSo line_bytes place_line l.words l.initial.text l.text l.count l.word-index
