-- `exact_cover::parts::gather` meets its contract: a word that can be a part is stored after those so
-- far, and another changes nothing.
-- Assumes nothing.
use mathlib.Core.Path.{sym, ◌∙◌}
use Rattle.exact_cover.proofs.laws.KeptWords.{drop_next, keep_next}
use Rattle.exact_cover.proofs.parts.gather.Goals as goal
use Rattle.exact_cover.proofs.parts.gather.Goals.{then-takes+else-parts-count, else-takes}

pub loop-word-preserved : goal.loop-word-preserved
loop-word-preserved c =
    elim c.if-takes.branch [
      | then-takes+else-parts-count w ↦
          rw (w.parts-is, w.count-is)
          (keep_next c.loop-word.invariant c.loop-word-test.true (sym c.takes.ensures ∙ w.if-takes.true) w.if-parts-count.false)
      | else-takes w ↦
          rw (w.parts-is, w.count-is)
          (drop_next c.loop-word.invariant c.loop-word-test.true (sym c.takes.ensures ∙ w.if-takes.false))
    ]
