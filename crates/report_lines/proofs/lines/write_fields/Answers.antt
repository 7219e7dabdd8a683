-- `report_lines::lines::write_fields` meets its contract: each number is put behind those before it,
-- and behind the last one there is room for a line feed.
-- Assumes nothing.
use Rattle.std.proofs.Common.{arith}
use Rattle.report_lines.proofs.laws.LineParts.{next_fits, end_fits, line_put}
use Rattle.report_lines.proofs.lines.write_fields.Goals as goal

pub overflow_add-next : goal.overflow_add-next
overflow_add-next c = omega (arith, next_fits c.loop-number.invariant c.requires c.loop-number-test.true)

pub slice_bounds-write_hex-end : goal.slice_bounds-write_hex-end
slice_bounds-write_hex-end c = omega (arith, next_fits c.loop-number.invariant c.requires c.loop-number-test.true, c.loop-number.auto.output)

pub bounds-output-at : goal.bounds-output-at
bounds-output-at c = omega (arith, end_fits c.loop-number.invariant c.requires c.loop-number-test.false, c.requires, c.loop-number.auto.output)

pub returns-clause-count : goal.returns-clause-count
returns-clause-count c = end_fits c.loop-number.invariant c.requires c.loop-number-test.false

pub returns-clause-text : goal.returns-clause-text
returns-clause-text c = line_put c.loop-number.invariant c.requires c.loop-number-test.false
