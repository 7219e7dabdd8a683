-- The lines of a padded text are those of the text, each with the zeros before it: seen from the
-- front, byte by byte. While the first line is read it has no zeros yet; they come before it once
-- the line feed of the line before is there. And a log of four-digit counts, so padded, is the log
-- of the same frames.
-- Assumes nothing.
use Prim.Native.Nat.{ℕ, ◌/◌, ◌%◌, ◌^◌, ◌≤◌, ◌<◌}
use native.Mathlib.Omega.{arith}
use mathlib.Core.Path.{◌≡◌, refl, sym, ap₂}
use mathlib.Core.Bool.{true, false}
use mathlib.Core.List.{List, [], ◌∷◌, ◌++◌, map, flat_map, append_assoc}
use lib.Dec.{eqb}
use lib.ListN.{length, length-append}
use Rattle.foundation.specs.Lists.{Each, each_nil, each_cons}
use Rattle.foundation.proofs.laws.Booleans.{by_test}
use Rattle.foundation.proofs.laws.Each.{each_append}
use Rattle.hex_digits.specs.Digits.{write_hex, digit_byte, line_feed}
use Rattle.event_log_spec.specs.Frames.{Frame, count_digits, written_with, write_frame}
use Rattle.event_log_spec.specs.Lines.{Line, line_text, put_first, lines}
use Rattle.hex_digits.proofs.laws.DigitLaws.{EachDigit, write_digits}
use Rattle.event_log_spec.proofs.laws.PairLaws.{pairs_digits}
use Rattle.event_log_spec.proofs.laws.TextLines.{text_of_lines, lines_after_digits}
use Rattle.padded_logs.specs.Padding.{former_count_digits, zeros, padded_line, padded}

-- the zeros before every line
abbrev pub all_padded : List Line → List ℕ
all_padded ls = flat_map (λ (l : Line). zeros ++ line_text l) ls

-- and before every line but the first: as text, and as lines
abbrev later_padded : List Line → List ℕ
later_padded [] = []
later_padded (l ∷ ls) = line_text l ++ all_padded ls

abbrev later_lines : List Line → List Line
later_lines [] = []
later_lines (l ∷ ls) = l ∷ map padded_line ls

-- the zeros before the first line too
with_first : (ls : List Line) → lines (later_padded ls) ≡ later_lines ls → lines (all_padded ls) ≡ map padded_line ls
unfolding lines flat_map
with_first [] e = refl
with_first (l ∷ ls) e = rw e

-- a byte more of the first line
with_byte : (byte : ℕ) (ls : List Line) → eqb byte line_feed ≡ false → lines (later_padded ls) ≡ later_lines ls
    → lines (later_padded (put_first byte ls)) ≡ later_lines (put_first byte ls)
unfolding lines flat_map
with_byte byte [] other e = rw other
with_byte byte (l ∷ ls) other e = rw (other, e)

lines_later : (text : List ℕ) → lines (later_padded (lines text)) ≡ later_lines (lines text)
unfolding lines flat_map
lines_later [] = refl
lines_later (byte ∷ text) =
    by_test
    (eqb byte line_feed)
    (λ t. rw (t, with_first (lines text) (lines_later text)))
    (λ f. rw f (with_byte byte (lines text) f (lines_later text)))

pub lines_padded : (text : List ℕ) → lines (padded text) ≡ map padded_line (lines text)
unfolding padded
lines_padded text = with_first (lines text) (lines_later text)

-- padding adds bytes, and takes none away
more_bytes : (ls : List Line) → length (flat_map line_text ls) ≤ length (all_padded ls)
unfolding flat_map
more_bytes [] = omega arith
more_bytes (l ∷ ls) =
    omega (
      arith,
      length-append (line_text l) (flat_map line_text ls),
      length-append (line_text l) (all_padded ls),
      more_bytes ls,
    )

pub longer : (text : List ℕ) → length text ≤ length (padded text)
unfolding padded
longer text = rw (text_of_lines text) at (more_bytes (lines text))

-- eight digits of a count that four can write are four zeros and those four
count_padded : (n : ℕ) → n < 16 ^ former_count_digits → write_hex count_digits n ≡ zeros ++ write_hex former_count_digits n
unfolding write_hex digit_byte
count_padded n small =
    let first : n / 16 ^ 7 % 16 ≡ 0 = omega arith in
    let second : n / 16 ^ 6 % 16 ≡ 0 = omega arith in
    let third : n / 16 ^ 5 % 16 ≡ 0 = omega arith in
    let fourth : n / 16 ^ 4 % 16 ≡ 0 = omega arith in
    rw (first, second, third, fourth)

-- the line of a frame with four digits of count
abbrev former_line : Frame → Line
former_line f = record { bytes = write_hex former_count_digits f.cases ++ flat_map (write_hex 2) f.trace; ended = true }

former_digits : (f : Frame) → EachDigit (former_line f).bytes
former_digits f = each_append (write_digits former_count_digits f.cases) (pairs_digits f.trace)

frame_padded : (f : Frame) → f.cases < 16 ^ former_count_digits → write_frame f ≡ zeros ++ line_text (former_line f)
unfolding written_with
frame_padded f small = rw (count_padded f.cases small)

pub frames_padded : {frames : List Frame} → Each (λ (f : Frame). f.cases < 16 ^ former_count_digits) frames
    → padded (flat_map (written_with former_count_digits) frames) ≡ flat_map write_frame frames
unfolding padded lines flat_map written_with
frames_padded each_nil = refl
frames_padded (each_cons {x = f} {xs = frames} here later) =
    let rest = flat_map (written_with former_count_digits) frames in
    rw (append_assoc (former_line f).bytes (line_feed ∷ []) rest, lines_after_digits rest (former_digits f))
    (ap₂ ◌++◌ (sym (frame_padded f here)) (frames_padded later))
