-- No line before the one whose turn it is underfeeds the place, and `start` is where its digits
-- start.
-- Assumes nothing.
use Rattle.std.proofs.Common.{ℕ, ◌≡◌, ◌≤◌, ◌<◌, false, length}
use Rattle.event_log_spec.specs.Lines.{frames_of, frame_at}
use Rattle.event_log.specs.FrameIndex.{digits_start}
use Rattle.replay_spec.specs.Balance.{underfeeds}
use Rattle.replay.proofs.missing.find_underfed.Given as goal

abbrev pub invariant-loop-line : goal.invariant-loop-line
invariant-loop-line l =
    (l.line ≤ length (frames_of l.log.text.now))
    × ((earlier : ℕ) → earlier < l.line → underfeeds (frame_at l.log.text.now earlier).trace l.fn.place ≡ false)
    × (l.start ≡ digits_start l.log.text.now l.line)
