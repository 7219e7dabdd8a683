-- A padded text has at eight digits the frames and the faults that the text has at four. A line
-- with the zeros has the count of the line, since they add nothing to it, and the same activities
-- behind it; of the tests of its form each is the same with four digits more.
-- Assumes nothing.
use Rattle.std.specs.Prelude.{Option}
use Prim.Native.Nat.{ℕ, suc, ◌%◌}
use native.Mathlib.Omega.{arith}
use mathlib.Core.Path.{◌≡◌, refl, ap₂}
use mathlib.Core.List.{List, [], ◌∷◌, ◌++◌, map, flat_map}
use native.Mathlib.Nat.{zero-mul, zero-add}
use borrow.Author.Tests.{ltb-true, ltb-false, lt-ltb, le-ltb, ne_eqb}
use lib.Dec.{ltb}
use lib.ListN.{length, take, drop}
use Rattle.foundation.proofs.laws.Booleans.{by_test}
use Rattle.limits.specs.declared.Refusal.{Refusal}
use Rattle.hex_digits.specs.Digits.{digit_of, is_digit, read_hex}
use Rattle.event_log_spec.specs.Frames.{count_digits, shortest_with}
use Rattle.event_log_spec.specs.Lines.{Line, lines, read_pairs, frame_with, frames_with, frames_of, frame_of}
use Rattle.event_log_spec.specs.Checking.{malformed_with, malformed, line_fault_with, line_fault, lines_fault_with, lines_fault, empty_fault, text_fault_with, text_fault, log_refusal_with, log_refusal}
use Rattle.padded_logs.specs.Padding.{former_count_digits, zeros, padded_line, padded}
use Rattle.padded_logs.proofs.laws.PaddedLines.{lines_padded, longer}

zeros_add_nothing : (bytes : List ℕ) → read_hex (zeros ++ bytes) ≡ read_hex bytes
unfolding read_hex digit_of
zeros_add_nothing bytes = simp (zero-mul, zero-add)

pub frame_padded : (l : Line) → frame_of (padded_line l) ≡ frame_with former_count_digits l
unfolding frame_with
frame_padded l = λ i. record { cases = zeros_add_nothing (take former_count_digits l.bytes) i; trace = read_pairs (drop former_count_digits l.bytes) }

-- four digits more leave an odd number odd, and make a line long enough exactly if it was for four
-- digits less
module _ (l : Line) where
  abbrev size : ℕ
  size = length l.bytes

  abbrev padded_size : ℕ
  padded_size = length (padded_line l).bytes

  same_parity : padded_size % 2 ≡ size % 2
  same_parity = omega arith

  as_short : ltb padded_size (shortest_with count_digits) ≡ ltb size (shortest_with former_count_digits)
  as_short =
      by_test
      (ltb size (shortest_with former_count_digits))
      (λ t. rw (t, lt-ltb padded_size (shortest_with count_digits) (omega (arith, ltb-true size (shortest_with former_count_digits) t))))
      (λ f. rw (f, le-ltb padded_size (shortest_with count_digits) (omega (arith, ltb-false size (shortest_with former_count_digits) f))))

  malformed_padded : malformed (padded_line l) ≡ malformed_with former_count_digits l
  unfolding malformed_with is_digit digit_of
  malformed_padded = rw (frame_padded l, same_parity, as_short)

module _ (A : ℕ) where
  fault_padded : (k : ℕ) (l : Line) → line_fault A k (padded_line l) ≡ line_fault_with former_count_digits A k l
  unfolding line_fault_with
  fault_padded k l = rw (malformed_padded l, frame_padded l)

  faults_padded : (k : ℕ) (ls : List Line) → lines_fault A k (map padded_line ls) ≡ lines_fault_with former_count_digits A k ls
  unfolding lines_fault_with
  faults_padded k [] = refl
  faults_padded k (l ∷ ls) = rw (fault_padded k l, faults_padded (suc k) ls)

  text_padded : (text : List ℕ) → text_fault A (padded text) ≡ text_fault_with former_count_digits A text
  unfolding text_fault_with
  text_padded text = rw (lines_padded text) (faults_padded 0 (lines text))

-- no byte stays none, and some stay some
empty_padded : (text : List ℕ) → empty_fault (padded text) ≡ empty_fault text
unfolding empty_fault padded lines flat_map
empty_padded [] = refl
empty_padded (byte ∷ text) =
    rw (
      ne_eqb (length (padded (byte ∷ text))) 0 (λ e. omega (arith, longer (byte ∷ text))),
      ne_eqb (length (byte ∷ text)) 0 (λ e. omega arith),
    )

frames_map : (ls : List Line) → map frame_of (map padded_line ls) ≡ map (frame_with former_count_digits) ls
frames_map [] = refl
frames_map (l ∷ ls) = ap₂ ◌∷◌ (frame_padded l) (frames_map ls)

pub frames_padded : (text : List ℕ) → frames_of (padded text) ≡ frames_with former_count_digits text
unfolding frames_with
frames_padded text = rw (lines_padded text) (frames_map (lines text))

-- whatever the checks before those of the text give, the refusal is the same
pub refusal_padded : (settings places : Option Refusal) (A : ℕ) (text : List ℕ)
    → log_refusal settings places A (padded text) ≡ log_refusal_with former_count_digits settings places A text
unfolding log_refusal_with
refusal_padded settings places A text = rw (empty_padded text, text_padded A text)
