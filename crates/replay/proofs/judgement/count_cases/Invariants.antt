-- The counts are those of the frames before the one whose turn it is, and in a range that does not
-- end before it begins, `start` is where its digits start.
-- Assumes nothing.
use Rattle.std.proofs.Common.{◌≡◌, ◌-◌, ◌≤◌}
use Rattle.event_log_spec.specs.Lines.{frames_between}
use Rattle.event_log.specs.FrameIndex.{digits_start}
use Rattle.replay_spec.specs.Judgement.{case_counts}
use Rattle.replay.specs.Replaying.{count_row}
use Rattle.replay.proofs.judgement.count_cases.Given as goal

abbrev pub invariant-loop-frame : goal.invariant-loop-frame
invariant-loop-frame l =
    (l.frame - l.from ≤ l.to - l.from)
    × (l.counts ≡ count_row (case_counts l.fn.place (frames_between l.from l.frame l.log.text.now)))
    × (l.from ≤ l.to → l.start ≡ digits_start l.log.text.now l.frame)
