-- `replay::judge` meets its contract: the counts, which are small enough to be compared, give the
-- verdict, and say whether a line is to be looked for.
-- Assumes nothing.
use Rattle.replay.proofs.laws.FrameByFrame.{verdict_counted, counts_bounded}
use Rattle.replay.proofs.judge.Goals as goal

pub verdict_on-requires : goal.verdict_on-requires
verdict_on-requires c = (c.requires, counts_bounded c.args.place _ c.args.log.now.indexed.log c.count_all-counts.ensures)

pub returns : goal.returns
returns c =
    rw (
      c.first_underfed.ensures,
      c.verdict_on.ensures,
      verdict_counted c.args.place _ c.args.threshold c.count_all-counts.ensures,
      c.count_all-counts.ensures,
    )
