-- `event_log::check_lines` meets its contract: a sound line takes the pass on.
-- Assumes nothing.
use Rattle.std.proofs.Common.{sym}
use Rattle.event_log.proofs.laws.LogPass.{line_passed}
use Rattle.event_log.proofs.check_lines.Goals as goal

pub loop-at-preserved : goal.loop-at-preserved
loop-at-preserved c = line_passed _ _ _ _ c.loop-at.invariant c.loop-at-test.true _ (sym c.in_ok-line.ensures)
