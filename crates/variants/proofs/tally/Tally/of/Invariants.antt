-- The counts are those of the events whose digits stand before the ones that are left.
-- Assumes nothing.
use Rattle.std.proofs.Common.{◌≡◌}
use Rattle.std.specs.Slice.Iter.{chunks_exact_rest, chunks_exact_size}
use Rattle.variants.proofs.laws.Tallying.{Tallied}
use Rattle.variants.proofs.tally.Tally.of.Given as goal

abbrev pub invariant-loop-pair : goal.invariant-loop-pair
invariant-loop-pair l =
    (chunks_exact_size l.pair-iterator ≡ 2) × Tallied l.digits (chunks_exact_rest l.pair-iterator) l.counts
