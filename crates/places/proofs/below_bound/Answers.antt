-- `places::below_bound` meets its contract: the law of the shift, below 16; at 16 and more every
-- 16-bit set is below the bound.
-- Assumes nothing.
use borrow.Author.Tests.{le-leb}
use Rattle.places.proofs.laws.Bounds.{below_sixteen, below_shift}
use Rattle.places.proofs.below_bound.Goals as goal

pub returns-then-activities-ge16 : goal.returns-then-activities-ge16
returns-then-activities-ge16 c =
    rw (le-leb _ _ c.if-activities-ge16.true, below_sixteen _ _ c.if-activities-ge16.true c.ranges.set.fits)

pub returns-else-activities-ge16 : goal.returns-else-activities-ge16
returns-else-activities-ge16 c = below_shift c.args.activities c.args.set
