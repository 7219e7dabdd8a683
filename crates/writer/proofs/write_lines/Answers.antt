-- `writer::write_lines` meets its contract: lines are blocks of one length, each is put behind those
-- before it, and where each word is written the bytes of the lines are counted.
-- Assumes nothing.
use Rattle.foundation.proofs.laws.Blocks.{none_written, next_written, all_written}
use Rattle.writer.specs.Writing.{line_bytes, place_line, list_text}
use Rattle.writer.proofs.laws.PlaceLines.{length_line}
use Rattle.writer.proofs.write_lines.Goals as goal

pub loop-word-init : goal.loop-word-init
loop-word-init c = none_written line_bytes place_line length_line

pub loop-word-preserved : goal.loop-word-preserved
loop-word-preserved c = next_written line_bytes place_line length_line c.loop-word.invariant c.loop-word-test.true c.write_line.ensures

pub returns : goal.returns
unfolding list_text
returns c =
    let all = all_written line_bytes place_line length_line c.loop-word.invariant c.loop-word-test.false in
    record { count = all.0; text = all.1 }
