-- The pass from where it stands answers what the whole text is answered with. The measure is what is
-- left of the text.
-- Assumes nothing.
use Prim.Native.Nat.{◌-◌}
use lib.ListN.{length}
use Rattle.event_log.proofs.laws.LogPass.{PassedTo}
use Rattle.event_log.proofs.check_lines.Given as goal

abbrev pub invariant-loop-at : goal.invariant-loop-at
invariant-loop-at l = PassedTo l.activities l.text l.size l.at

abbrev pub decreases-loop-at : goal.decreases-loop-at
decreases-loop-at l = length l.text - l.at
