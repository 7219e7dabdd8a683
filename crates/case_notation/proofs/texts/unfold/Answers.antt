-- `case_notation::texts::unfold` meets its contract: what each piece stands for goes behind what the
-- pieces before it do.
-- Assumes nothing.
use Rattle.case_notation.proofs.laws.FilledParts.{one_part, part_full}
use Rattle.case_notation.proofs.laws.Pieces.{pieces_meant}
use Rattle.case_notation.proofs.texts.unfold.Goals as goal

pub returns-in_err-count : goal.returns-in_err-count
returns-in_err-count c =
    rw c.from_residual.ensures
    (part_full c.loop-piece.invariant _ _ (pieces_meant _ _ _ c.in-Some.ensures.steps) (rw c.in_err-count.was at c.put_piece.ensures))

pub loop-piece-preserved : goal.loop-piece-preserved
loop-piece-preserved c =
    one_part c.loop-piece.invariant _ _ (pieces_meant _ _ _ c.in-Some.ensures.steps) (rw c.in_ok-count.was at c.put_piece.ensures)
