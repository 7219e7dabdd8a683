-- `replay::verdict_over` meets its contract: the counts, which are small enough to be compared,
-- give the verdict.
-- Assumes nothing.
use mathlib.Core.Path.{◌∙◌}
use Rattle.replay.proofs.laws.FrameByFrame.{verdict_counted, counts_bounded}
use Rattle.replay.proofs.verdict_over.Goals as goal

pub verdict_on-requires : goal.verdict_on-requires
verdict_on-requires c = (c.requires, counts_bounded c.args.place _ c.args.log.now.indexed.log c.count_all.ensures)

pub returns : goal.returns
returns c = c.verdict_on.ensures ∙ verdict_counted c.args.place _ c.args.threshold c.count_all.ensures
