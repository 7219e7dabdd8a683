-- The words of the runs so far fill the front of the list, and those of the others are left.
-- Assumes nothing.
use Rattle.std.specs.List.{flat_map}
use Rattle.case_notation.specs.Fields.{parts_of}
use Rattle.case_notation.specs.WordLists.{run_meant, list_meant}
use Rattle.case_notation.proofs.laws.FilledParts.{FilledSoFar}
use Rattle.case_notation.proofs.lists.unfold.Given as goal

abbrev pub invariant-loop-word : goal.invariant-loop-word
invariant-loop-word l =
    let runs = parts_of l.word-iterator.separator l.word-iterator.rest.now in
    FilledSoFar l.fn.list (list_meant l.text) (flat_map run_meant runs) l.list l.count
