-- The words of the lines before the one whose turn it is stand in front, and `start` is where that
-- line's digits start.
-- Assumes nothing.
use Rattle.std.proofs.Common.{◌≡◌, length, take}
use mathlib.Core.List.{map}
use Rattle.foundation.specs.Lists.{up_to}
use Rattle.event_log_spec.specs.Lines.{frames_of}
use Rattle.event_log.specs.FrameIndex.{digits_start}
use Rattle.variants.specs.Words.{word_of}
use Rattle.variants.proofs.gathering.write_frame_words.Given as goal

abbrev pub invariant-loop-line : goal.invariant-loop-line
invariant-loop-line l =
    (length l.words ≡ length (frames_of l.log.text.now))
    × (take l.line l.words ≡ map (word_of (frames_of l.log.text.now)) (up_to l.line))
    × (l.start ≡ digits_start l.log.text.now l.line)
