-- What is left of the line decides what the whole line is read as. The measure is its length.
-- Assumes nothing.
use lib.ListN.{length}
use Rattle.log_lines.proofs.laws.Scan.{ReadTo}
use Rattle.log_lines.proofs.line.read_activities.Given as goal

abbrev pub invariant-loop-pair : goal.invariant-loop-pair
invariant-loop-pair l = ReadTo l.activities l.from l.line l.phase l.unknown l.rest

abbrev pub decreases-loop-pair : goal.decreases-loop-pair
decreases-loop-pair l = length l.rest
