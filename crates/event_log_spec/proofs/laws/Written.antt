-- Exactly those texts are accepted that are built from frames in the written form. The answer gives
-- the number and the cases of the frames that the text was built from; there is only one list of
-- such frames. A text without a fault is its lines one after the other, each of them a frame's; and
-- the lines of a written log are its frames', none of which has a fault.
-- Assumes nothing.
use Rattle.std.specs.Prelude.{None, Ok}
use Prim.Native.Nat.{ℕ, suc, ◌+◌, ◌-◌, ◌*◌, ◌^◌, ◌≤◌}
use native.Mathlib.Omega.{arith}
use mathlib.Core.Path.{◌≡◌, refl, sym, ap, ap₂, ◌∙◌}
use mathlib.Core.Logic.{◌↔◌}
use mathlib.Core.Bool.{true, and-eq-true_iff}
use mathlib.Core.List.{List, [], ◌∷◌, ◌++◌, map, flat_map}
use borrow.Author.Tests.{leb-true}
use lib.Dec.{leb, lit≤}
use lib.ListN.{length, length-map}
use Rattle.foundation.specs.Lists.{Each, each_nil, each_cons}
use Rattle.foundation.proofs.laws.Each.{each_imply, each_map}
use Rattle.limits.specs.Settings.{most_activities, bound_in_range, bound_fault}
use Rattle.event_log_spec.specs.declared.LogSize.{LogSize}
use Rattle.hex_digits.specs.Digits.{write_hex}
use Rattle.event_log_spec.specs.Frames.{Frame, FrameUnder, count_digits, WrittenLog, most_frames, write_frame, written_with, total_cases}
use Rattle.event_log_spec.specs.Lines.{Line, line_text, lines, frame_of, frames_of, frames_with}
use Rattle.event_log_spec.specs.Checking.{line_fault, lines_fault, lines_fault_with, text_fault, text_fault_with, log_refusal, log_size, size_of, checked, checked_with}
use Rattle.event_log_spec.proofs.laws.Lines.{lines_step}
use Rattle.limits.proofs.laws.FirstOf.{first_none}
use Rattle.limits.proofs.laws.AnswerNumbers.{answer_accepted}
use Rattle.event_log_spec.proofs.laws.LogChecks.{log_passes, bound_passes, lines_decide}
use Rattle.event_log_spec.proofs.laws.FrameLines.{frame_line, FramedLine, under_back, frame_no_fault, no_fault_framed}
use Rattle.event_log_spec.proofs.laws.TextLines.{text_of_lines, written_text, lines_written}

-- a bound in its range is at most what a set can name, and so one that two digits can write
pub bound_most : (A : ℕ) → bound_in_range A ≡ true → A ≤ most_activities
unfolding bound_in_range
bound_most A e = leb-true A most_activities ((and-eq-true_iff (leb 2 A) (leb A most_activities)).0 e).1

bound_narrow : (A : ℕ) → bound_in_range A ≡ true → A ≤ 256
bound_narrow A e = omega (arith, bound_most A e)

module _ (A : ℕ) where
  lines_framed : (k : ℕ) (ls : List Line) → k ≤ most_frames → lines_fault A k ls ≡ None
      → (k + length ls ≤ most_frames) × Each (FramedLine A) ls
  unfolding lines_fault_with
  lines_framed k [] few e = (omega arith, each_nil)
  lines_framed k (l ∷ ls) few e =
      let parts = first_none (line_fault A k l) (lines_fault A (suc k) ls ∷ []) e in
      let here = no_fault_framed A k l parts.0 in
      let later = lines_framed (suc k) ls here.0 (first_none (lines_fault A (suc k) ls) [] parts.1).0 in
      (omega (arith, later.0), each_cons here.1 later.1)

  framed_text : {ls : List Line} → Each (FramedLine A) ls → flat_map line_text ls ≡ flat_map write_frame (map frame_of ls)
  unfolding flat_map
  framed_text each_nil = refl
  framed_text (each_cons {x = l} here later) =
      ap₂ ◌++◌ (ap line_text here.written ∙ sym (written_text (frame_of l))) (framed_text later)

  frames_no_fault : (k : ℕ) {frames : List Frame} → A ≤ 256 → k + length frames ≤ most_frames → Each (FrameUnder A) frames
      → lines_fault A k (map frame_line frames) ≡ None
  unfolding lines_fault_with
  frames_no_fault k narrow few each_nil = refl
  frames_no_fault k narrow few (each_cons here later) =
      rw (frame_no_fault A k narrow (omega arith) here, frames_no_fault (suc k) narrow (omega arith) later)

  frames_back : {frames : List Frame} → A ≤ 256 → Each (FrameUnder A) frames → map frame_of (map frame_line frames) ≡ frames
  frames_back narrow each_nil = refl
  frames_back narrow (each_cons here later) = ap₂ ◌∷◌ (under_back narrow here) (frames_back narrow later)

-- each frame has fewer cases than its digits have numbers
pub total_bounded : {A : ℕ} {frames : List Frame} → Each (FrameUnder A) frames → total_cases frames ≤ (16 ^ count_digits - 1) * length frames
unfolding total_cases
total_bounded each_nil = omega arith
total_bounded (each_cons here later) = omega (arith, here.countable, total_bounded later)

-- what the answer n, N says of a text
pub record AcceptedAs (A : ℕ) (text : List ℕ) (n N : ℕ) : Type 0 where
  pub in_range : bound_in_range A ≡ true
  pub written : WrittenLog A (frames_of text) text
  pub number_of_frames : n ≡ length (frames_of text)
  pub cases : N ≡ total_cases (frames_of text)

pub text_written : (A : ℕ) (text : List ℕ) → 1 ≤ length text → text_fault A text ≡ None → WrittenLog A (frames_of text) text
unfolding frames_with text_fault_with
text_written A text some_byte sound =
    let framed = lines_framed A 0 (lines text) (lit≤ tt) sound in
    let same = length-map (lines text) frame_of in
    record {
      some_frame = rw (same, lines_step text some_byte) (omega arith);
      few_frames = omega (arith, framed.0, same);
      each = each_map frame_of (each_imply (λ l f. f.under) framed.1);
      in_order = sym (text_of_lines text) ∙ framed_text A framed.1;
    }

pub accepted_written : (A : ℕ) (text : List ℕ) (n N : ℕ) → checked A text ≡ Ok (log_size n N) → AcceptedAs A text n N
unfolding checked_with
accepted_written A text n N e =
    let parts = answer_accepted (log_refusal (bound_fault A) None A text) (size_of text) (log_size n N) e in
    let p = (log_passes A text (bound_fault A) None).0 parts.0 in
    record {
      in_range = (bound_passes A).0 p.settings_pass;
      written = text_written A text p.some_byte p.lines_pass;
      number_of_frames = sym (ap (λ (s : LogSize). s.frames) parts.1);
      cases = sym (ap (λ (s : LogSize). s.cases) parts.1);
    }

frames_some_byte : (frames : List Frame) → 1 ≤ length frames → 1 ≤ length (flat_map write_frame frames)
unfolding flat_map written_with write_hex
frames_some_byte [] some_frame = absurd (omega arith)
frames_some_byte (f ∷ frames) some_frame = omega arith

module _ (A : ℕ) (in_range : bound_in_range A ≡ true) {frames : List Frame} {text : List ℕ} (log : WrittenLog A frames text) where
  pub written_frames : frames_of text ≡ frames
  unfolding frames_with
  written_frames = rw (log.in_order, lines_written frames) (frames_back A (bound_narrow A in_range) log.each)

  written_sound : text_fault A text ≡ None
  unfolding text_fault_with
  written_sound =
      let few : 0 + length frames ≤ most_frames = omega (arith, log.few_frames) in
      rw (log.in_order, lines_written frames) (frames_no_fault A 0 (bound_narrow A in_range) few log.each)

  written_some_byte : 1 ≤ length text
  written_some_byte = rw log.in_order (frames_some_byte frames log.some_frame)

  pub written_accepted : checked A text ≡ Ok (log_size (length frames) (total_cases frames))
  unfolding checked_with
  written_accepted = rw ((bound_passes A).1 in_range, lines_decide A text written_some_byte, written_sound, written_frames)

-- the answer says just that
pub accepted_as : (A : ℕ) (text : List ℕ) (n N : ℕ) → (checked A text ≡ Ok (log_size n N)) ↔ AcceptedAs A text n N
accepted_as A text n N =
    (accepted_written A text n N, λ a. rw (a.number_of_frames, a.cases) (written_accepted A a.in_range a.written))

-- N has 44 bits: 4,096 times FFFFFFFF at most
pub cases_at_most : (A : ℕ) (text : List ℕ) (n N : ℕ) → checked A text ≡ Ok (log_size n N) → N ≤ 17592186040320
cases_at_most A text n N e =
    let a = accepted_written A text n N e in
    omega (arith, a.cases, total_bounded a.written.each, a.written.few_frames)

module _ (A : ℕ) (text : List ℕ) (in_range : bound_in_range A ≡ true) where
  pub accepted_exactly : ((n : ℕ) × (N : ℕ) × (checked A text ≡ Ok (log_size n N))) ↔ ((frames : List Frame) × WrittenLog A frames text)
  accepted_exactly = (
    λ a. (frames_of text, (accepted_written A text a.0 a.1 a.2).written),
    λ w. (length w.0, total_cases w.0, written_accepted A in_range w.1),
  )

  pub written_unique : {frames others : List Frame} → WrittenLog A frames text → WrittenLog A others text → frames ≡ others
  written_unique log other = sym (written_frames A in_range log) ∙ written_frames A in_range other
