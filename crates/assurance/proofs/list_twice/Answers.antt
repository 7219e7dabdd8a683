-- `assurance::list_twice` meets its contract: both calls go as written, so demand 3 holds of what
-- the caller sees of them.
-- Assumes nothing.
use Rattle.assurance_spec.proofs.laws.Demand3Holds.{demand_3_seen}
use Rattle.assurance.proofs.list_twice.Goals as goal

pub returns-clause-demand3 : goal.returns-clause-demand3
returns-clause-demand3 c = demand_3_seen c.list_places-first.ensures c.list_places-second.ensures
