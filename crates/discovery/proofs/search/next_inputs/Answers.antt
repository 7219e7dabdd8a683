-- `discovery::search::next_inputs` meets its contract: one of the two steps through the sets is
-- taken. A candidate's set is not empty and has only codes below the bound.
-- Assumes nothing.
use Rattle.candidate_order_spec.proofs.laws.Succession.{candidate_bounds}
use Rattle.discovery.proofs.search.next_inputs.Goals as goal

pub set_past-requires : goal.set_past-requires
set_past-requires c =
    let listed = candidate_bounds _ _ c.requires.0 _ c.requires.1 in
    (c.requires.0, listed.some, listed.small)
