-- `reduction::keep_irredundant` meets its contract: a word that is not redundant is stored after those
-- so far, and there is room for it, since no more were kept than seen.
-- Assumes nothing.
use native.Mathlib.Omega.{arith}
use mathlib.Core.Path.{sym, ap, ◌∙◌}
use mathlib.Core.Bool.{not}
use Rattle.foundation.proofs.laws.Members.{each_member, member_at}
use Rattle.reduction_spec.specs.Cover.{Listable}
use Rattle.reduction_spec.specs.Reduction.{reduced_words}
use Rattle.exact_cover.proofs.laws.KeptWords.{drop_next, keep_next, all_kept}
use Rattle.reduction.proofs.keep_irredundant.Goals as goal
use Rattle.reduction.proofs.keep_irredundant.Goals.{then-not-is_redundant, else-not-is_redundant}

pub is_redundant-requires-clause-place : goal.is_redundant-requires-clause-place
unfolding Listable
is_redundant-requires-clause-place c = each_member c.requires.places (member_at c.args.words.now c.loop-word.word-index 0 c.loop-word-test.true)

pub loop-word-preserved : goal.loop-word-preserved
loop-word-preserved c = (
  elim c.if-not-is_redundant.branch [
    | then-not-is_redundant w ↦
        rw (w.kept-is, w.count-is)
        (keep_next
        c.loop-word.invariant.0
        c.loop-word-test.true
        (ap not (sym c.is_redundant.ensures.answer ∙ w.if-not-is_redundant.true))
        (omega (arith, c.loop-word.invariant.0.few, c.loop-word.invariant.0.room, c.loop-word-test.true, c.requires.room)))
    | else-not-is_redundant w ↦
        rw (w.kept-is, w.count-is)
        (drop_next
        c.loop-word.invariant.0
        c.loop-word-test.true
        (ap not (sym c.is_redundant.ensures.answer ∙ w.if-not-is_redundant.false)))
  ],
  omega (arith, c.is_redundant.auto.parts, c.loop-word.invariant.1),
)

pub returns-clause-count : goal.returns-clause-count
unfolding reduced_words
returns-clause-count c = (all_kept c.loop-word.invariant.0 c.loop-word-test.false).0

pub returns-clause-list : goal.returns-clause-list
unfolding reduced_words
returns-clause-list c = (all_kept c.loop-word.invariant.0 c.loop-word-test.false).1
