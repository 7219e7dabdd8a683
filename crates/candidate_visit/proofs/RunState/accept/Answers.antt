-- `candidate_visit::RunState::accept` meets its contract: the candidate's word is stored, or the
-- list is full.
-- Assumes nothing.
use mathlib.Core.Path.{refl}
use Rattle.candidate_visit.proofs.laws.Recording.{found_stored, list_full}
use Rattle.candidate_visit.proofs.RunState.accept.Goals as goal

pub returns-then-self : goal.returns-then-self
returns-then-self c budget = list_full c.args.candidate budget c.args.self.now c.requires c.if-self.true

pub returns : goal.returns
returns c budget =
    let w = c.args.self.now in
    found_stored c.args.candidate budget w c.requires c.if-self.false (rw c.from.ensures) refl _ _
