-- The index of a log's frames: an entry for each, from which and from the one before it all is read
-- that is asked of a frame again and again. Document 01, "Settings and the log".
-- Assumes nothing.
use Rattle.std.specs.Prelude.{ℕ, ◌+◌, ◌*◌, ◌≡◌, length, take}
use mathlib.Core.List.{List, [], ◌∷◌, flat_map}
use Rattle.limits.specs.Settings.{most_activities}
use Rattle.hex_digits.specs.Digits.{write_hex}
use Rattle.event_log_spec.specs.Frames.{Frame, WrittenLog, count_digits, write_frame}
use Rattle.event_log_spec.specs.Lines.{frames_of}
use Rattle.event_log.specs.declared.index.IndexedFrame.{IndexedFrame}

-- the entries of the frames that are written from an index on: each has its count, its digits and a
-- line feed, and then the next one follows
unfoldable pub frame_index : ℕ → List Frame → List IndexedFrame
frame_index from [] = []
frame_index from (f ∷ frames) =
    let end = from + count_digits + 2 * length f.trace in
    record { end = end; cases = f.cases } ∷ frame_index (end + 1) frames

-- a log that was accepted, and the index of its frames
pub record Indexed (text : List ℕ) (index : List IndexedFrame) : Type 0 where
  pub log : WrittenLog most_activities (frames_of text) text
  pub indexed : index ≡ frame_index 0 (frames_of text)

-- where the activity digits of a frame start: after the frames before it, and its own count
unfoldable pub digits_start : List ℕ → ℕ → ℕ
digits_start text line = length (flat_map write_frame (take line (frames_of text))) + count_digits

-- the activity digits of a frame, two for each activity
abbrev pub activity_digits : Frame → List ℕ
activity_digits f = flat_map (write_hex 2) f.trace
