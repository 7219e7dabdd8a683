-- The search for a cover meets its contracts: a cover begins with a word that covers the chosen
-- activity, so where each of these fails there is none, and one that succeeds makes one with the
-- cover of what it leaves; and that has one where it is nothing, and none where it has no inputs or
-- no outputs. A search over the words that were gathered needs the laws alone that its function names.
-- Assumes nothing.
use native.Mathlib.Omega.{arith}
use mathlib.Core.Path.{refl, sym, ap, ◌∙◌}
use mathlib.Core.Bool.{false≢true}
use lib.ListN.{length}
use Rattle.reduction_spec.proofs.laws.Covers.{usable_le, usable_fewer}
use Rattle.cover_choice.specs.Choosing.{Chosen}
use Rattle.exact_cover.proofs.laws.Trying.{says_no, says_yes, one_kind_left, tried_none, tried_more, tried_all, succeeds, leaves_nothing}
use Rattle.exact_cover.proofs.Uncovered.+cover.Goals as goal
use Rattle.exact_cover.proofs.Uncovered.+cover.Goals.{is_covered-else-word-chosen-eq1-via-then-word-chosen-eq1+then-takes+else-is_covered_after, is_covered-else-word-chosen-eq1-via-then-word-chosen-eq1+else-takes, is_covered-else-word-chosen-eq1-via-else-word-chosen-eq1}

pub is_covered-returns-in_default : goal.is_covered-returns-in_default
unfolding Chosen
is_covered-returns-in_default t c = says_no c.in_default.ensures

pub is_covered-loop-word-init : goal.is_covered-loop-word-init
unfolding Chosen
is_covered-loop-word-init t c = (tried_none c.in-Some.ensures.fewest, refl)

pub is_covered-returns-then-is_covered_after : goal.is_covered-returns-then-is_covered_after
is_covered-returns-then-is_covered_after t c =
    says_yes (succeeds c.loop-word.word-index c.loop-word-test.true (sym c.if-takes.ensures) (c.is_covered_after.ensures.0 c.if-is_covered_after.true))

pub is_covered-loop-word-preserved : goal.is_covered-loop-word-preserved
is_covered-loop-word-preserved t c =
    elim c.else-word-chosen-eq1.branch [
      | is_covered-else-word-chosen-eq1-via-then-word-chosen-eq1+then-takes+else-is_covered_after w ↦ (
        tried_more c.loop-word.invariant.0 c.loop-word-test.true λ u h cover.
            absurd (false≢true (sym w.if-is_covered_after.false ∙ w.is_covered_after.ensures.1 cover)),
        omega (arith, ap length w.parts-is, w.is_covered_after.auto.parts, c.loop-word.invariant.1),
      )
      | is_covered-else-word-chosen-eq1-via-then-word-chosen-eq1+else-takes w ↦ (
        tried_more c.loop-word.invariant.0 c.loop-word-test.true λ u h cover. absurd (false≢true (sym w.if-takes.false ∙ w.takes.ensures ∙ u)),
        omega (arith, ap length w.parts-is, c.loop-word.invariant.1),
      )
      | is_covered-else-word-chosen-eq1-via-else-word-chosen-eq1 w ↦ (
        tried_more c.loop-word.invariant.0 c.loop-word-test.true λ u h cover. w.if-word-chosen-eq1.false h,
        omega (arith, ap length w.parts-is, c.loop-word.invariant.1),
      )
    ]

pub is_covered-returns : goal.is_covered-returns
is_covered-returns t c = says_no (tried_all c.loop-word.invariant.0 c.loop-word-test.false)

pub is_covered_after-overflow_sub-left : goal.is_covered_after-overflow_sub-left
is_covered_after-overflow_sub-left t c = usable_le _ _ _ c.requires.next

pub is_covered_after-returns-then-left-eq0 : goal.is_covered_after-returns-then-left-eq0
is_covered_after-returns-then-left-eq0 t c = says_yes (leaves_nothing c.if-left-eq0.true)

pub is_covered_after-returns-then-not-is_through : goal.is_covered_after-returns-then-not-is_through
is_covered_after-returns-then-not-is_through t c =
    says_no (one_kind_left _ c.args.self.places c.if-left-eq0.false (rw c.from.ensures at (sym c.if-not-is_through.ensures)))

pub is_covered_after-has_cover-requires : goal.is_covered_after-has_cover-requires
is_covered_after-has_cover-requires t c = (omega (arith, c.decreases, usable_fewer _ _ _ c.requires.some c.requires.next), tt)
