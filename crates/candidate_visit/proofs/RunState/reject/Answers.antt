-- `candidate_visit::RunState::reject` meets its contract: the candidate's word is dropped, or
-- stored, and then it prunes where the candidate is overfed.
-- Assumes nothing.
use Rattle.std.proofs.Common.{refl, arith}
use Rattle.candidate_visit.proofs.laws.Recording.{word_stored, word_dropped, either_overfed, not_overfed}
use Rattle.candidate_visit.proofs.RunState.reject.Goals as goal

pub returns-then-self : goal.returns-then-self
returns-then-self c budget = word_dropped _ budget _ c.requires _ c.if-self.true

pub returns-in-Overfed : goal.returns-in-Overfed
returns-in-Overfed c budget =
    let overfed = either_overfed _ c.in-Overfed.is in
    word_stored _ budget _ c.requires _ overfed (omega arith, omega arith) c.if-self.false (rw c.rejected_word.ensures) refl _ _

pub returns-in-Fitting : goal.returns-in-Fitting
returns-in-Fitting c budget =
    let overfed = not_overfed _ c.in-Fitting.is in
    word_stored _ budget _ c.requires _ overfed (omega arith, omega arith) c.if-self.false (rw c.rejected_word.ensures) refl _ _
