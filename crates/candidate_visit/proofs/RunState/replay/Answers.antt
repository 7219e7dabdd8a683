-- `candidate_visit::RunState::replay` meets its contract: the budget is spent, or the candidate is
-- replayed, and fits or does not.
-- Assumes nothing.
use Rattle.candidate_visit.specs.Standing.{state_in}
use Rattle.candidate_visit.proofs.laws.Visiting.{budget_spent, replayed_fitting, replayed_other}
use Rattle.candidate_visit.proofs.RunState.replay.Goals as goal

pub returns-then-search-self : goal.returns-then-search-self
returns-then-search-self c = budget_spent _ _ _ _ c.if-search-self.true

pub accept-requires : goal.accept-requires
unfolding state_in
accept-requires c = c.requires.unruled

pub reject-requires : goal.reject-requires
unfolding state_in
reject-requires c = c.requires.unruled

pub returns-in-Fitting : goal.returns-in-Fitting
returns-in-Fitting c = replayed_fitting _ _ _ _ c.if-search-self.false _ _ c.in-Fitting.ensures (c.accept.ensures _)

pub returns-in_default : goal.returns-in_default
returns-in_default c =
    replayed_other _ _ _ _ c.if-search-self.false _ _ _ c.in_default.not-Fitting c.verdict_over.ensures (c.reject.ensures _)
