-- `cover_choice::highest` meets its contract: a word below twice a power of two has no activity above
-- that power's.
-- Assumes nothing.
use Rattle.std.proofs.Common.{suc, arith}
use Rattle.cover_choice.proofs.laws.HighestBit.{no_bit}
use Rattle.cover_choice.proofs.highest.Goals as goal

pub returns-clause-none_above : goal.returns-clause-none_above
returns-clause-none_above c activity above = no_bit _ (suc c.ilog2.result) activity (omega (arith, c.ilog2.ensures.next_power_gt)) above
