-- `case_output::put_equal_bytes` is safe and ends: the bytes written leave fewer.
-- Assumes nothing.
use Rattle.std.proofs.Common.{length}
use Rattle.case_output.proofs.put_equal_bytes.Given as goal

abbrev pub decreases-loop-rest : goal.decreases-loop-rest
decreases-loop-rest g l = length l.rest
