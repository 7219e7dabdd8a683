-- `case_output::put_words` is safe and ends: the words written leave fewer.
-- Assumes nothing.
use Rattle.std.proofs.Common.{length}
use Rattle.case_output.proofs.put_words.Given as goal

abbrev pub decreases-loop-rest : goal.decreases-loop-rest
decreases-loop-rest g l = length l.rest
