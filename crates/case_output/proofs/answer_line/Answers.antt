-- `case_output::answer_line` meets its contract: where the call is not refused, `write` is called
-- with the writer and what the call answers.
-- Assumes nothing.
use Rattle.std.proofs.Common.{refl}
use Rattle.case_output.proofs.answer_line.Goals as goal

pub returns-in-Ok : goal.returns-in-Ok
returns-in-Ok g c = rw c.in-Ok.is (_, _, c.write.ensures, refl, refl)
