-- `reduction::union::is_redundant` meets its contract: a place is redundant exactly if words of the
-- list other than its own cover it.
-- Assumes nothing.
use native.Mathlib.Omega.{arith}
use Rattle.foundation.proofs.laws.Booleans.{same_truth}
use Rattle.reduction_spec.proofs.laws.Covers.{word_halves}
use Rattle.reduction_spec.proofs.laws.UnionTests.{redundant_cover}
use Rattle.reduction.proofs.union.is_redundant.Goals as goal

pub invariant_of-has_cover : goal.invariant_of-has_cover
invariant_of-has_cover c = record { places = c.requires.places; some_left = omega (arith, (word_halves _ c.requires.place).0) }

pub returns-clause-answer : goal.returns-clause-answer
returns-clause-answer c =
    let found = c.has_cover.ensures.answer in
    let same = redundant_cover c.requires.places c.args.whole c.requires.place in
    same_truth (λ e. same.1 (found.0 e)) (λ e. found.1 (same.0 e))
