-- `case_notation::lists::unfold` meets its contract: the words of each run go behind those of the
-- runs before it.
-- Assumes nothing.
use Rattle.std.proofs.Common.{ap}
use Rattle.std.specs.List.{flat_map}
use Rattle.case_notation.specs.WordLists.{run_meant}
use Rattle.case_notation.proofs.laws.FilledParts.{one_part, part_full}
use Rattle.case_notation.proofs.lists.unfold.Goals as goal

pub returns-in_err-count : goal.returns-in_err-count
returns-in_err-count c =
    rw c.from_residual.ensures
    (part_full c.loop-word.invariant _ _ (ap (flat_map run_meant) c.in-Some.ensures.steps) (rw c.in_err-count.was at c.put_run.ensures))

pub loop-word-preserved : goal.loop-word-preserved
loop-word-preserved c =
    one_part c.loop-word.invariant _ _ (ap (flat_map run_meant) c.in-Some.ensures.steps) (rw c.in_ok-count.was at c.put_run.ensures)
