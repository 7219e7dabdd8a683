-- `writer::write_line` meets its contract: the digits of both sets and the line feed fill the line.
-- Assumes nothing.
use Rattle.writer.proofs.laws.PlaceLines.{line_written}
use Rattle.writer.proofs.write_line.Goals as goal

pub returns : goal.returns
returns c =
    let place = c.from-place.ensures in
    line_written
    c.args.line.now
    _
    _
    c.args.word
    c.requires
    (rw (c.from.ensures, place) at c.write_hex.ensures)
    (rw (c.from-2.ensures, place) at c.write_hex-2.ensures)
