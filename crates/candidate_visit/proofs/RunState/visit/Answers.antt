-- `candidate_visit::RunState::visit` meets its contract: the words rule the candidate, or it is
-- left to `replay`.
-- Assumes nothing.
use mathlib.Core.Path.{refl}
use Rattle.candidate_visit.proofs.laws.Visiting.{ruled_by_words, skipped, not_skipped}
use Rattle.candidate_visit.proofs.RunState.visit.Goals as goal

pub replay-requires-clause-unruled : goal.replay-requires-clause-unruled
replay-requires-clause-unruled c = ruled_by_words _ _ c.rejected_words.ensures c.in-None.ensures

pub returns-in-Some-AsOverfed : goal.returns-in-Some-AsOverfed
returns-in-Some-AsOverfed c =
    let ruling = rw c.in-Some-AsOverfed.field-0-is at c.in-Some-AsOverfed.ensures in
    skipped _ _ _ _ _ (ruled_by_words _ _ c.rejected_words.ensures ruling) refl _ _

pub returns-in-Some-AsUnderfed : goal.returns-in-Some-AsUnderfed
returns-in-Some-AsUnderfed c =
    let ruling = rw c.in-Some-AsUnderfed.field-0-is at c.in-Some-AsUnderfed.ensures in
    skipped _ _ _ _ _ (ruled_by_words _ _ c.rejected_words.ensures ruling) refl _ _

pub returns-in-None : goal.returns-in-None
returns-in-None c =
    let unruled = ruled_by_words c.args.candidate c.args.self.now c.rejected_words.ensures c.in-None.ensures in
    rw (not_skipped _ _ _ _ unruled) c.replay.ensures
