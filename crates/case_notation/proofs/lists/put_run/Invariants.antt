-- The slots so far have the first words of the run.
-- Assumes nothing.
use Rattle.std.proofs.Common.{◌≡◌, take}
use Rattle.case_notation.specs.WordLists.{between}
use Rattle.case_notation.proofs.lists.put_run.Given as goal

abbrev pub invariant-loop-at : goal.invariant-loop-at
invariant-loop-at l = take l.at l.slot-items ≡ take l.at (between l.first l.last)
