-- `report_lines::lines::write_report` meets its contract: the last line goes behind the lines of
-- the list, where there is room for it.
-- Assumes nothing.
use Rattle.std.proofs.Common.{◌+◌, ◌≤◌, length, arith, length-drop}
use Rattle.std.proofs.Math.ListN.{length-take}
use Rattle.writer.proofs.laws.PlaceLines.{length_text}
use Rattle.reporter_spec.specs.Program.{result_bytes}
use Rattle.report_lines.proofs.lines.write_report.Goals as goal

pub write_run-requires : goal.write_run-requires
write_run-requires c =
    let lines = c.write_lines-count in
    let room : lines.result + result_bytes ≤ length lines.new.text = omega (arith, c.requires, lines.ensures.count, length_text c.args.words.now, lines.auto.text) in
    simp (length-take, length-drop) (omega (arith, room))
