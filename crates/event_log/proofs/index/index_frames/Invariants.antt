-- The entries of the frames before the index stand in front of the buffer. The measure is what is
-- left of the text.
-- Assumes nothing.
use Prim.Native.Nat.{◌-◌}
use lib.ListN.{length}
use Rattle.event_log.proofs.laws.FrameIndex.{Stored}
use Rattle.event_log.proofs.index.index_frames.Given as goal

abbrev pub invariant-loop-at : goal.invariant-loop-at
invariant-loop-at l = Stored l.text l.initial.index l.index l.count l.at

abbrev pub decreases-loop-at : goal.decreases-loop-at
decreases-loop-at l = length l.text - l.at
