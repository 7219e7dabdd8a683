-- The numbers before the index stand in front of the buffer.
-- Assumes nothing.
use Rattle.report_lines.proofs.laws.LineParts.{FieldsSo}
use Rattle.report_lines.proofs.lines.write_fields.Given as goal

abbrev pub invariant-loop-number : goal.invariant-loop-number
invariant-loop-number l = FieldsSo l.fields l.initial.output l.output l.at l.number-index
