-- Checking a text's lines in one pass. Where a pass stands at some line with so many cases counted,
-- the lines that are left decide: the first is refused, or the pass goes on at the line after it;
-- with no line left, what was counted is the answer. Where the checks before those of the lines
-- pass, the lines alone decide what checking the log answers.
-- Assumes nothing.
use Rattle.std.specs.Prelude.{None, Some, Result, Ok, Err}
use Prim.Native.Nat.{ℕ, suc, ◌+◌, ◌*◌, ◌≤◌, ◌<◌, ◌^◌}
use mathlib.Core.Path.{◌≡◌, sym, ap, ◌∙◌}
use mathlib.Core.Bool.{true}
use mathlib.Core.List.{List, [], ◌∷◌, map}
use native.Mathlib.Nat.{zero-add, add-zero, add_assoc, add-suc}
use native.Mathlib.Numerals.{add-one}
use native.Mathlib.Omega.{arith}
use lib.ListN.{length, drop, drop_of_length-le, length-drop, length-map}
use lib.Seq.{drop-drop}
use Rattle.limits.specs.declared.Refusal.{Refusal}
use Rattle.limits.specs.declared.Refusal.TheVariants.{EmptyLog}
use Rattle.limits.specs.Refusals.{first_refusal, answered}
use Rattle.limits.specs.Settings.{bound_in_range}
use Rattle.event_log_spec.specs.declared.LogSize.{LogSize}
use Rattle.log_lines.specs.declared.CheckedLine.{CheckedLine}
use Rattle.event_log_spec.specs.Frames.{count_digits, most_frames, total_cases}
use Rattle.event_log_spec.specs.Lines.{Line, lines, first_line, frame_of, frames_with}
use Rattle.event_log_spec.specs.Checking.{line_fault, lines_fault, lines_fault_with, empty_fault, text_fault_with, log_refusal_with, log_size, checked, checked_with}
use Rattle.log_lines.specs.Reading.{checked_line, line_checked}
use Rattle.event_log.specs.Pass.{text_checked, lines_checked}
use Rattle.event_log_spec.proofs.laws.Lines.{lines_step}
use Rattle.limits.proofs.laws.FirstOf.{only_one}
use Rattle.event_log_spec.proofs.laws.FrameLines.{no_fault_framed}
use Rattle.limits.proofs.laws.AnswerNumbers.{answer_refused, answer_accepted}
use Rattle.event_log_spec.proofs.laws.LogChecks.{bound_passes, bound_refused, lines_decide}

-- checking a log under a bound in its range is checking its text, and checking a text of some byte
-- is checking its lines
pub text_decides : (A : ℕ) (text : List ℕ) → bound_in_range A ≡ true → checked A text ≡ text_checked A text
unfolding checked_with text_checked
text_decides A text in_range = rw ((bound_passes A).1 in_range)

pub text_empty : (A : ℕ) (text : List ℕ) → length text ≡ 0 → text_checked A text ≡ Err EmptyLog
unfolding text_checked log_refusal_with first_refusal empty_fault
text_empty A text e = rw e

pub lines_checked_lem : (A : ℕ) (text : List ℕ) → 1 ≤ length text → text_checked A text ≡ lines_checked A text
unfolding text_checked lines_checked
lines_checked_lem A text some_byte = rw (lines_decide A text some_byte)

pub ruleset text_steps = (text_empty, lines_checked_lem)

pub ruleset log_steps = (bound_refused, text_decides)

-- what a pass answers that stands before these lines, with `line` lines and `cases` cases behind it
unfoldable pub pass : ℕ → ℕ → ℕ → List Line → Result LogSize Refusal
pass A line cases ls =
    answered (lines_fault A line ls) (log_size (line + length ls) (cases + total_cases (map frame_of ls)))

pub pass_all : (A : ℕ) (text : List ℕ) → pass A 0 0 (lines text) ≡ lines_checked A text
unfolding pass lines_checked text_fault_with frames_with
pass_all A text = rw (zero-add (length (lines text)), zero-add (total_cases (map frame_of (lines text))), length-map (lines text) frame_of)

pub pass_none : (A line cases : ℕ) → pass A line cases [] ≡ Ok (log_size line cases)
unfolding pass lines_fault_with total_cases
pass_none A line cases = rw (add-zero line, add-zero cases)

shift : (m n : ℕ) → m + suc n ≡ suc m + n
shift m n = omega arith

module _ (A line cases : ℕ) (l : Line) (ls : List Line) where
  pub pass_faulty : (r : Refusal) → line_fault A line l ≡ Some r → pass A line cases (l ∷ ls) ≡ Err r
  unfolding pass lines_fault_with
  pass_faulty r e = rw e

  pub pass_sound : line_fault A line l ≡ None → pass A line cases (l ∷ ls) ≡ pass A (line + 1) (cases + (frame_of l).cases) ls
  unfolding pass lines_fault_with total_cases
  pass_sound e =
      rw (
        e,
        only_one (lines_fault A (suc line) ls),
        add-one line,
        shift line (length ls),
        ← add_assoc cases (frame_of l).cases (total_cases (map frame_of ls)),
      )

-- what a line says that was found sound
record SoundLine (A line from : ℕ) (l : Line) (read : CheckedLine) : Type 0 where
  fault : line_fault A line l ≡ None
  after : suc (from + length l.bytes) ≡ read.next
  counted : (frame_of l).cases ≡ read.cases
  few : line < most_frames
  small : read.cases < 16 ^ count_digits

sound_line : (A line from : ℕ) (l : Line) (read : CheckedLine) → line_checked A line from l ≡ Ok read → SoundLine A line from l read
unfolding line_checked
sound_line A line from l read e =
    let parts = answer_accepted (line_fault A line l) (checked_line (suc (from + length l.bytes)) (frame_of l).cases) read e in
    let framed = no_fault_framed A line l parts.0 in
    let counted = ap (λ (c : CheckedLine). c.cases) parts.1 in
    record {
      fault = parts.0;
      after = ap (λ (c : CheckedLine). c.next) parts.1;
      counted = counted;
      few = framed.0;
      small = rw counted at framed.1.under.countable;
    }

-- the pass over a text stands at an index, with so many lines and cases behind it
pub record PassedTo (A : ℕ) (text : List ℕ) (size : LogSize) (at : ℕ) : Type 0 where
  pub so_far : pass A size.frames size.cases (lines (drop at text)) ≡ lines_checked A text
  pub few : size.frames ≤ most_frames
  pub small : size.cases ≤ 16 ^ count_digits * size.frames

module _ (A : ℕ) (text : List ℕ) where
  pub none_passed : PassedTo A text (log_size 0 0) 0
  none_passed = record { so_far = pass_all A text; few = omega arith; small = omega arith }

  module _ (size : LogSize) (at : ℕ) (p : PassedTo A text size at) where
    pub all_passed : length text ≤ at → lines_checked A text ≡ Ok size
    unfolding lines
    all_passed end = sym p.so_far ∙ rw (drop_of_length-le text end) (pass_none A size.frames size.cases)

    module _ (more : at < length text) where
      first : lines (drop at text) ≡ first_line (drop at text) ∷ lines (drop (suc (at + length (first_line (drop at text)).bytes)) text)
      first = rw (lines_step (drop at text) (omega (arith, length-drop at text)), drop-drop, add-suc)

      pub line_refused : (r : Refusal) → line_checked A size.frames at (first_line (drop at text)) ≡ Err r → lines_checked A text ≡ Err r
      unfolding line_checked
      line_refused r e =
          let l = first_line (drop at text) in
          let fault = (answer_refused (line_fault A size.frames l) (checked_line (suc (at + length l.bytes)) (frame_of l).cases) r).0 e in
          sym p.so_far ∙ rw first (pass_faulty A size.frames size.cases _ _ r fault)

      module _ (read : CheckedLine) (e : line_checked A size.frames at (first_line (drop at text)) ≡ Ok read) where
        sound : SoundLine A size.frames at (first_line (drop at text)) read
        sound = sound_line A size.frames at (first_line (drop at text)) read e

        pub line_after : at < read.next
        line_after = omega (arith, sound.after)

        pub line_fits : size.cases + read.cases < 2 ^ 64
        line_fits = omega (arith, sound.few, sound.small, p.small)

        step : pass A size.frames size.cases (lines (drop at text))
            ≡ pass A (size.frames + 1) (size.cases + read.cases) (lines (drop read.next text))
        step = rw first (rw (pass_sound A size.frames size.cases _ _ sound.fault, sound.after, sound.counted))

        pub line_passed : PassedTo A text (log_size (size.frames + 1) (size.cases + read.cases)) read.next
        line_passed =
            record {
              so_far = sym step ∙ p.so_far;
              few = omega (arith, sound.few);
              small = omega (arith, sound.small, p.small);
            }

pub ruleset lines_passed = (none_passed, all_passed, line_refused, line_after, line_fits, line_passed)
