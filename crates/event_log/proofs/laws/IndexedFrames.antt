-- What the index says of a log's frames: a frame's entry gives its cases, and where its activity
-- digits end in the text; they start behind the line feed of the frame before, which its entry gives,
-- and the frame's own count. So the digits between the two are the frame's.
-- Assumes nothing.
use Prim.Native.Nat.{ℕ, zero, suc, ◌+◌, ◌-◌, ◌*◌, ◌^◌, ◌≤◌, ◌<◌}
use native.Mathlib.Numerals.{add-one}
use native.Mathlib.Omega.{arith}
use mathlib.Core.Path.{◌≡◌, refl, ap, ◌∙◌}
use mathlib.Core.List.{List, [], ◌∷◌, ◌++◌, flat_map}
use lib.ListN.{length, take, drop, get_or, length-append}
use lib.Seq.{take_at, drop-append-add}
use Rattle.foundation.proofs.laws.Lists.{each_head}
use Rattle.foundation.proofs.laws.Each.{each_at}
use Rattle.limits.specs.Settings.{most_activities}
use Rattle.hex_digits.specs.Digits.{line_feed}
use Rattle.event_log_spec.specs.Frames.{Frame, FrameUnder, WrittenLog, count_digits, write_frame, frame_in}
use Rattle.event_log_spec.specs.Lines.{frames_of, frame_at}
use Rattle.event_log_spec.proofs.laws.PairLaws.{length_pairs}
use Rattle.event_log.specs.Stepping.{trace_end}
use Rattle.event_log.specs.declared.index.IndexedFrame.{IndexedFrame}
use Rattle.event_log.specs.FrameIndex.{frame_index, Indexed, digits_start, activity_digits}
use Rattle.event_log.proofs.laws.FrameAt.{from_digits, frame_end, frame_part, frame_inside}
use Rattle.event_log.proofs.laws.FrameIndex.{frame_bytes, length_index}

-- where the line of a frame starts, counted from the first frame
abbrev line_start : List Frame → ℕ → ℕ
line_start frames line = length (flat_map write_frame (take line frames))

-- each frame takes its bytes
start_after : (frames : List Frame) (line : ℕ) → line < length frames
    → line_start frames (suc line) ≡ line_start frames line + count_digits + 2 * length (frame_in frames line).trace + 1
unfolding flat_map
start_after [] line less = absurd (omega arith)
start_after (f ∷ frames) zero less = omega (arith, length-append (write_frame f) [], frame_bytes f)
start_after (f ∷ frames) (suc line) less =
    omega (
      arith,
      length-append (write_frame f) (flat_map write_frame (take (suc line) frames)),
      length-append (write_frame f) (flat_map write_frame (take line frames)),
      start_after frames line (omega arith),
    )

-- the text goes on with the frame where its line starts
text_at : (frames : List Frame) (line : ℕ) → line < length frames
    → drop (line_start frames line) (flat_map write_frame frames) ≡ write_frame (frame_in frames line) ++ flat_map write_frame (drop (suc line) frames)
unfolding flat_map
text_at [] line less = absurd (omega arith)
text_at (f ∷ frames) zero less = refl
text_at (f ∷ frames) (suc line) less =
    let before = flat_map write_frame (take line frames) in
    rw (length-append (write_frame f) before)
    (drop-append-add (write_frame f) (flat_map write_frame frames) (length before) ∙ text_at frames line (omega arith))

-- the entry of a frame: its cases, and where its digits end
record EntryOf (from : ℕ) (frames : List Frame) (line : ℕ) (entry : IndexedFrame) : Type 0 where
  cases : entry.cases ≡ (frame_in frames line).cases
  ends : entry.end ≡ from + line_start frames line + count_digits + 2 * length (frame_in frames line).trace

entry_found : (from : ℕ) (frames : List Frame) (line : ℕ) (none : IndexedFrame) → line < length frames
    → EntryOf from frames line (get_or (frame_index from frames) line none)
unfolding frame_index flat_map
entry_found from [] line none less = absurd (omega arith)
entry_found from (f ∷ frames) zero none less = record { cases = refl; ends = omega arith }
entry_found from (f ∷ frames) (suc line) none less =
    let later = entry_found (from + count_digits + 2 * length f.trace + 1) frames line none (omega arith) in
    record {
      cases = later.cases;
      ends =
          omega (
            arith,
            later.ends,
            length-append (write_frame f) (flat_map write_frame (take line frames)),
            frame_bytes f,
          );
    }

-- there are as many entries as frames
pub index_length : {text : List ℕ} {index : List IndexedFrame} → Indexed text index → length index ≡ length (frames_of text)
index_length {text} i = ap length i.indexed ∙ length_index 0 (frames_of text)

-- each frame of a log is one under the bound
pub frame_under : {text : List ℕ} → WrittenLog most_activities (frames_of text) text → (line : ℕ) → line < length (frames_of text)
    → FrameUnder most_activities (frame_at text line)
frame_under log line less = each_at line _ log.each less

-- so of a log with its index
module _ {text : List ℕ} {index : List IndexedFrame} (i : Indexed text index) (line : ℕ) (none : IndexedFrame)
    (less : line < length (frames_of text)) where
  abbrev frame : Frame
  frame = frame_at text line

  found_entry : EntryOf 0 (frames_of text) line (get_or index line none)
  found_entry = rw i.indexed (entry_found 0 (frames_of text) line none less)

  frame_text : drop (line_start (frames_of text) line) text ≡ write_frame frame ++ flat_map write_frame (drop (suc line) (frames_of text))
  frame_text = ap (drop (line_start (frames_of text) line)) i.log.in_order ∙ text_at (frames_of text) line less

  pub cases_found : (get_or index line none).cases ≡ frame.cases
  cases_found = found_entry.cases

  end_found : (get_or index line none).end ≡ digits_start text line + 2 * length frame.trace
  unfolding digits_start
  end_found = omega (arith, found_entry.ends)

  -- the next frame's digits start after its line feed and a count
  pub next_found : (get_or index line none).end + 1 + count_digits ≡ digits_start text (line + 1)
  unfolding digits_start
  next_found = rw (add-one line) (omega (arith, found_entry.ends, start_after (frames_of text) line less))

  pub digits_onward : digits_start text line ≤ (get_or index line none).end
  digits_onward = omega (arith, end_found)

  -- as many as 16 bits can say, by far
  pub digits_few : (get_or index line none).end - digits_start text line < 2 ^ 16
  digits_few = omega (arith, end_found, (frame_under i.log line less).short)

  pub digits_inside : (get_or index line none).end ≤ length text
  unfolding digits_start
  digits_inside =
      let at = line_start (frames_of text) line in
      let rest = flat_map write_frame (drop (suc line) (frames_of text)) in
      omega (arith, end_found, frame_end text at frame rest frame_text, frame_inside text at frame rest frame_text)

  pub digits_found :
      let start = digits_start text line in
      let digits = (get_or index line none).end - start in
      take (start + digits - start) (drop start text) ≡ activity_digits frame
  unfolding digits_start
  digits_found =
      let at = line_start (frames_of text) line in
      let rest = flat_map write_frame (drop (suc line) (frames_of text)) in
      rw (from_digits text at frame rest frame_text)
      (take_at (activity_digits frame) (line_feed ∷ rest) _ (omega (arith, end_found, length_pairs frame.trace)))

-- the first frame's digits start after its count
pub first_start : (text : List ℕ) → count_digits ≡ digits_start text 0
unfolding digits_start flat_map
first_start text = refl

-- a later frame is the one after the frame before
pub later_start : (text : List ℕ) (line : ℕ) → (line ≡ 0 → ⊥) → digits_start text (line - 1 + 1) ≡ digits_start text line
later_start text line other = let same : line - 1 + 1 ≡ line = omega arith in rw same

pub ruleset found = (index_length, cases_found, next_found, digits_onward, digits_few, digits_inside, digits_found, first_start, later_start)

-- the first frame without an index: its digits are those from the count to the line feed
pub record FirstDigits (text : List ℕ) : Type 0 where
  pub under : FrameUnder most_activities (frame_at text 0)
  pub starts : count_digits ≤ trace_end text count_digits
  pub ends : trace_end text count_digits < length text
  pub digits : take (trace_end text count_digits - count_digits) (drop count_digits text) ≡ activity_digits (frame_at text 0)

pub first_found : (text : List ℕ) → WrittenLog most_activities (frames_of text) text → FirstDigits text
unfolding flat_map
first_found text w = go (frames_of text) refl
  where
    go : (frames : List Frame) → frames_of text ≡ frames → FirstDigits text
    go [] e = absurd (omega (arith, w.some_frame, ap length e))
    go (f ∷ frames) e =
        let rest = flat_map write_frame frames in
        let begins : drop 0 text ≡ write_frame f ++ rest = w.in_order ∙ ap (flat_map write_frame) e in
        record {
          under = rw e (each_head (rw e at w.each));
          starts = omega (arith, frame_end text 0 f rest begins);
          ends = frame_inside text 0 f rest begins;
          digits = rw e (frame_part text 0 f rest begins);
        }

-- by parts
module _ (text : List ℕ) (w : WrittenLog most_activities (frames_of text) text) where
  pub first_starts : count_digits ≤ trace_end text count_digits
  first_starts = (first_found text w).starts

  pub first_ends : trace_end text count_digits < length text
  first_ends = (first_found text w).ends

  pub first_digits_found : take (trace_end text count_digits - count_digits) (drop count_digits text) ≡ activity_digits (frame_at text 0)
  first_digits_found = (first_found text w).digits

pub ruleset first_part = (first_starts, first_ends, first_digits_found)
