-- Frames, and how a log is built from them: the written form. Document 01, "Settings and the log";
-- the source's Definitions 1 and 2.
-- Assumes nothing.
use Rattle.std.specs.Prelude.{ℕ, ◌+◌, ◌*◌, ◌^◌, ◌≤◌, ◌<◌, ◌≡◌, length, get_or}
use mathlib.Core.List.{List, [], ◌∷◌, ◌++◌, map, flat_map}
use Rattle.foundation.specs.Lists.{Each, sum}
use Rattle.hex_digits.specs.Digits.{write_hex, line_feed}

-- a trace, the activity codes of its events, with the number of cases that it was logged for
pub record Frame : Type 0 where
  pub cases : ℕ
  pub trace : List ℕ

-- a frame by its line; beyond the last, one of no cases and no activities
abbrev pub frame_in : List Frame → ℕ → Frame
frame_in frames line = get_or frames line (record { cases = 0; trace = [] })

-- the digits of a case count. What reads, checks and writes frames takes their number (`.._with`),
-- so that logs of eight can be held to logs of four
abbrev pub count_digits : ℕ
count_digits = 8

-- the most events of a trace, and the most frames of a log
abbrev pub most_events : ℕ
most_events = 254

abbrev pub most_frames : ℕ
most_frames = 4096

-- the digits of the shortest and of the longest frame: the count, and two for each activity
abbrev pub shortest_with : ℕ → ℕ
shortest_with digits = digits + 2 * 2

abbrev pub shortest_frame : ℕ
shortest_frame = shortest_with count_digits

abbrev pub longest_frame : ℕ
longest_frame = count_digits + 2 * most_events

-- a behaviour (Definition 1): the start, activities that are neither start nor end, the end
pub record Behaviour (trace : List ℕ) : Type 0 where
  pub between : List ℕ
  pub ends : trace ≡ 0 ∷ (between ++ (1 ∷ []))
  pub neither : Each (λ (a : ℕ). 2 ≤ a) between

-- a frame that a log under the activity bound A may have
pub record FrameUnder (A : ℕ) (f : Frame) : Type 0 where
  pub counted : 1 ≤ f.cases
  pub countable : f.cases < 16 ^ count_digits
  pub long : 2 ≤ length f.trace
  pub short : length f.trace ≤ most_events
  pub known : Each (λ (a : ℕ). a < A) f.trace
  pub behaviour : Behaviour f.trace

-- a frame as a line: the count, of so many digits, two digits for each activity, a line feed
unfoldable pub written_with : ℕ → Frame → List ℕ
written_with digits f = write_hex digits f.cases ++ flat_map (write_hex 2) f.trace ++ (line_feed ∷ [])

abbrev pub write_frame : Frame → List ℕ
write_frame = written_with count_digits

-- the text is a log under A, built from these frames
pub record WrittenLog (A : ℕ) (frames : List Frame) (text : List ℕ) : Type 0 where
  pub some_frame : 1 ≤ length frames
  pub few_frames : length frames ≤ most_frames
  pub each : Each (FrameUnder A) frames
  pub in_order : text ≡ flat_map write_frame frames

-- N, the cases of all frames, equal ones too
unfoldable pub total_cases : List Frame → ℕ
total_cases frames = sum (map (λ (f : Frame). f.cases) frames)
