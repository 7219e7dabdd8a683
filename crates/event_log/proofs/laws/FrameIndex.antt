-- The entries of a log's frames, stored one after the other: where a frame begins, the entries of
-- those before it stand in front of the buffer, and those of the frames that are left make up the
-- rest. A log has no more frames than there is room for, and so few bytes that each field of an entry
-- is wide enough.
-- Assumes nothing.
use Rattle.std.specs.Prelude.{Some, is_some, true}
use Rattle.std.proofs.lemmas.Option.{same_Some}
use Rattle.log_lines.specs.Reading.{count_in}
use Prim.Native.Nat.{ℕ, ◌+◌, ◌*◌, ◌^◌, ◌≤◌, ◌<◌}
use native.Mathlib.Omega.{arith}
use mathlib.Core.Path.{◌≡◌, refl, sym, ap, ap₂, ◌∙◌}
use mathlib.Core.List.{List, [], ◌∷◌, ◌++◌, flat_map, append-nil, append_assoc}
use lib.ListN.{length, take, drop, set, length-append, length-drop}
use Rattle.std.proofs.lemmas.List.{nil_from_length}
use Rattle.foundation.specs.Lists.{Each, each_nil, each_cons}
use Rattle.foundation.proofs.laws.Lists.{each_head, each_tail}
use Rattle.limits.specs.Settings.{most_activities}
use Rattle.foundation.specs.Buffers.{overwrite}
use Rattle.foundation.proofs.laws.Buffers.{overwrite_more, take_overwritten}
use Rattle.hex_digits.specs.Digits.{write_hex, line_feed}
use Rattle.hex_digits.proofs.laws.DigitLaws.{length_write}
use Rattle.event_log_spec.specs.Frames.{Frame, FrameUnder, WrittenLog, count_digits, most_frames, longest_frame, write_frame, written_with}
use Rattle.event_log_spec.specs.Lines.{frames_of}
use Rattle.event_log_spec.proofs.laws.PairLaws.{length_pairs}
use Rattle.event_log.specs.Stepping.{trace_end}
use Rattle.event_log.specs.declared.index.IndexedFrame.{IndexedFrame}
use Rattle.event_log.specs.FrameIndex.{frame_index, Indexed}
use Rattle.event_log.proofs.laws.FrameAt.{frame_count, frame_end, frame_inside, frame_next}

-- the bytes of a frame, and of frames
pub frame_bytes : (f : Frame) → length (write_frame f) ≡ count_digits + 2 * length f.trace + 1
unfolding written_with
frame_bytes f =
    let pairs = flat_map (write_hex 2) f.trace in
    omega (
      arith,
      length-append (write_hex count_digits f.cases ++ pairs) (line_feed ∷ []),
      length-append (write_hex count_digits f.cases) pairs,
      length_write count_digits f.cases,
      length_pairs f.trace,
    )

frames_bytes : {A : ℕ} {frames : List Frame} → Each (FrameUnder A) frames → length (flat_map write_frame frames) ≤ (longest_frame + 1) * length frames
unfolding flat_map
frames_bytes each_nil = omega arith
frames_bytes (each_cons {x = f} {xs = frames} here later) =
    omega (arith, length-append (write_frame f) (flat_map write_frame frames), frame_bytes f, here.short, frames_bytes later)

-- so those of a log are few
pub log_bytes : {A : ℕ} {frames : List Frame} {text : List ℕ} → WrittenLog A frames text → length text < 2 ^ 23
log_bytes log = omega (arith, ap length log.in_order, frames_bytes log.each, log.few_frames)

-- the frames that are left of a log from an index on
pub record FramesLeft (text : List ℕ) (at : ℕ) : Type 0 where
  pub left : List Frame
  pub written : drop at text ≡ flat_map write_frame left
  pub under : Each (FrameUnder most_activities) left

-- the first of them has its count, its digits and its line feed
record FirstLeft (text : List ℕ) (at : ℕ) (left : List Frame) : Type 0 where
  first : Frame
  later : List Frame
  parts : left ≡ first ∷ later
  under : FrameUnder most_activities first
  later_under : Each (FrameUnder most_activities) later
  written : drop at text ≡ write_frame first ++ flat_map write_frame later

module _ (text : List ℕ) (at : ℕ) (f : FramesLeft text at) where
  module _ (more : at < length text) where
    first_left : FirstLeft text at f.left
    unfolding flat_map
    first_left = go f.left f.written f.under
      where
        go : (left : List Frame) → drop at text ≡ flat_map write_frame left → Each (FrameUnder most_activities) left → FirstLeft text at left
        go [] written under = absurd (omega (arith, length-drop at text, ap length written))
        go (first ∷ later) written under =
            record {
              first = first;
              later = later;
              parts = refl;
              under = each_head under;
              later_under = each_tail under;
              written = written;
            }

    abbrev trace : List ℕ
    trace = first_left.first.trace

    end : trace_end text (at + count_digits) ≡ at + count_digits + 2 * length trace
    end = frame_end text at first_left.first (flat_map write_frame first_left.later) first_left.written

    pub some_left : 1 ≤ length f.left
    some_left = omega (arith, ap length first_left.parts)

    pub end_onward : at + count_digits ≤ trace_end text (at + count_digits)
    end_onward = omega (arith, end)

    pub end_inside : trace_end text (at + count_digits) < length text
    end_inside = frame_inside text at first_left.first (flat_map write_frame first_left.later) first_left.written

    first_count : count_in (drop at text) ≡ Some first_left.first.cases
    first_count =
        frame_count
        text
        at
        first_left.first
        (flat_map write_frame first_left.later)
        first_left.written
        first_left.under.counted
        first_left.under.countable

    pub some_count : is_some (count_in (drop at text)) ≡ true
    some_count = ap is_some first_count

    same_count : (cases : ℕ) → count_in (drop at text) ≡ Some cases → cases ≡ first_left.first.cases
    same_count cases e = same_Some cases first_left.first.cases (sym e ∙ first_count)

    pub cases_fit : (cases : ℕ) → count_in (drop at text) ≡ Some cases → cases < 2 ^ 32
    cases_fit cases e = omega (arith, same_count cases e, first_left.under.countable)

  pub none_left : length text ≤ at → length f.left ≡ 0
  unfolding flat_map
  none_left over = go f.left f.written
    where
      go : (left : List Frame) → drop at text ≡ flat_map write_frame left → length left ≡ 0
      go [] written = refl
      go (first ∷ later) written =
          let rest = flat_map write_frame later in
          absurd (omega (arith, frame_end text at first rest written, frame_inside text at first rest written))

-- the entries of the frames before an index of the text stand in front of a buffer
pub record Stored (text : List ℕ) (before index : List IndexedFrame) (count at : ℕ) : Type 0 where
  pub frames : FramesLeft text at
  pub counted : count + length frames.left ≡ length (frames_of text)
  pub done : List IndexedFrame
  pub measured : length done ≡ count
  pub stored : index ≡ overwrite done before
  pub together : done ++ frame_index at frames.left ≡ frame_index 0 (frames_of text)

module _ (text : List ℕ) (before : List IndexedFrame) (log : WrittenLog most_activities (frames_of text) text) where
  pub none_stored : Stored text before before 0 0
  none_stored =
      record {
        frames = record { left = frames_of text; written = log.in_order; under = log.each };
        counted = omega arith;
        done = [];
        measured = refl;
        stored = refl;
        together = refl;
      }

  module _ (index : List IndexedFrame) (count at : ℕ) (s : Stored text before index count at) where
    -- one turn stores the entry of the frame at the index
    pub one_stored : (cases : ℕ) → at < length text → most_frames ≤ length index → count_in (drop at text) ≡ Some cases
        → let end = trace_end text (at + count_digits) in
        Stored text before (set index count (record { end = end; cases = cases })) (count + 1) (end + 1)
    unfolding frame_index
    one_stored cases more wide e =
        let f = first_left text at s.frames more in
        let next = trace_end text (at + count_digits) in
        let entry : IndexedFrame = record { end = next; cases = cases } in
        let together : s.done ++ frame_index at (f.first ∷ f.later) ≡ frame_index 0 (frames_of text) = rw f.parts at s.together in
        record {
          frames =
              record {
                left = f.later;
                written = frame_next text at f.first (flat_map write_frame f.later) f.written;
                under = f.later_under;
              };
          counted = omega (arith, s.counted, ap length f.parts);
          done = s.done ++ (entry ∷ []);
          measured = omega (arith, length-append s.done (entry ∷ []), s.measured);
          stored =
              ap₂ (λ (buffer : List IndexedFrame) (n : ℕ). set buffer n entry) s.stored (sym s.measured)
              ∙ overwrite_more before s.done entry (omega (arith, s.measured, s.counted, ap length f.parts, log.few_frames, wide, ap length s.stored));
          together =
              append_assoc s.done (entry ∷ []) (frame_index (next + 1) f.later)
              ∙ rw (end text at s.frames more, same_count text at s.frames more cases e) together;
        }

    pub all_stored : length text ≤ at → index ≡ overwrite (frame_index 0 (frames_of text)) before
    unfolding frame_index
    all_stored over =
        let none : s.frames.left ≡ [] = nil_from_length s.frames.left (none_left text at s.frames over) in
        let together : s.done ++ [] ≡ frame_index 0 (frames_of text) = rw none at s.together in
        s.stored ∙ ap (λ (front : List IndexedFrame). overwrite front before) (sym (append-nil s.done) ∙ together)

pub ruleset frames_stored = (log_bytes, some_left, end_onward, end_inside, some_count, cases_fit, none_left, none_stored, one_stored, all_stored)

pub length_index : (from : ℕ) (frames : List Frame) → length (frame_index from frames) ≡ length frames
unfolding frame_index
length_index from [] = refl
length_index from (f ∷ frames) = omega (arith, length_index (from + count_digits + 2 * length f.trace + 1) frames)

-- the entries that were stored, taken from the front of their buffer, are the index of the log
pub log_indexed : (text : List ℕ) (before after : List IndexedFrame) (count : ℕ) → WrittenLog most_activities (frames_of text) text
    → count ≡ length (frames_of text) → after ≡ overwrite (frame_index 0 (frames_of text)) before
    → Indexed text (take count after)
log_indexed text before after count log counted stored =
    let index = frame_index 0 (frames_of text) in
    record {
      log = log;
      indexed =
          ap₂
          (λ (n : ℕ) (buffer : List IndexedFrame). take n buffer)
          (counted ∙ sym (length_index 0 (frames_of text)))
          stored
          ∙ take_overwritten before index;
    }
