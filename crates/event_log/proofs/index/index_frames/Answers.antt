-- `event_log::index::index_frames` meets its contract: each turn stores the entry of the frame at the
-- index, and when no byte is left all entries are stored.
-- Assumes nothing.
use Rattle.std.proofs.Common.{sym, ◌∙◌, arith}
use Rattle.event_log.proofs.laws.FrameIndex.{some_left, none_left, none_stored, one_stored, all_stored}
use Rattle.event_log.proofs.index.index_frames.Goals as goal

pub loop-at-init : goal.loop-at-init
loop-at-init c = none_stored _ _ c.requires.0

pub bounds-index-count : goal.bounds-index-count
bounds-index-count c = omega (arith, some_left _ _ c.loop-at.invariant.frames c.loop-at-test.true)

pub loop-at-preserved : goal.loop-at-preserved
loop-at-preserved c =
    rw c.trace_end-end.ensures
    (one_stored _ _ c.requires.0 _ _ _ c.loop-at.invariant _ c.loop-at-test.true (omega arith) (sym c.count_at.ensures.answer ∙ c.unwrap-cases.ensures))

pub returns : goal.returns
returns c =
    record {
      count = omega (arith, none_left _ _ c.loop-at.invariant.frames c.loop-at-test.false);
      index = all_stored _ _ c.requires.0 _ _ _ c.loop-at.invariant c.loop-at-test.false;
    }
