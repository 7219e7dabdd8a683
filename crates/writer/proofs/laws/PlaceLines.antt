-- The lines of places: all have the same length, so those of a list have that many bytes a place;
-- and a line is filled by the digits of two numbers and one byte after them.
-- Assumes nothing.
use Prim.Native.Nat.{ℕ, ◌*◌}
use native.Mathlib.Omega.{arith}
use mathlib.Core.Path.{◌≡◌, ap, ap₂, ◌∙◌}
use mathlib.Core.List.{List, [], ◌∷◌, ◌++◌, append_assoc}
use borrow.Rule.Slice.PartMut.{put_mid, post_of}
use lib.ListN.{length, get_or, take, drop, set, length-append, length-drop, drop_of_length-le}
use lib.Seq.{length-take-le, drop-cons, drop-drop, take_at, drop_at, set_at}
use Rattle.foundation.proofs.laws.Blocks.{length_blocks}
use Rattle.places.specs.Places.{place_of}
use Rattle.hex_digits.specs.Digits.{write_hex, line_feed}
use Rattle.hex_digits.proofs.laws.DigitLaws.{length_write}
use Rattle.writer.specs.Writing.{set_digits, line_bytes, place_line, list_text}

pub length_line : (w : ℕ) → length (place_line w) ≡ line_bytes
unfolding place_line
length_line w =
    let first = write_hex set_digits (place_of w).inputs in
    let second = write_hex set_digits (place_of w).outputs in
    omega (
      arith,
      length-append (first ++ second) (line_feed ∷ []),
      length-append first second,
      length_write set_digits (place_of w).inputs,
      length_write set_digits (place_of w).outputs,
    )

-- the bytes of a line a place
pub length_text : (words : List ℕ) → length (list_text words) ≡ line_bytes * length words
unfolding list_text
length_text = length_blocks line_bytes place_line length_line

-- a line in which two numbers were written, with the digits of a set each, and then a line feed
module _ (line first second : List ℕ) (w : ℕ) (whole : length line ≡ line_bytes) where
  filled : length first ≡ set_digits → set (put_mid set_digits set_digits (first ++ post_of 0 set_digits line) second) (2 * set_digits) line_feed ≡ set (first ++ (second ++ drop (2 * set_digits) line)) (2 * set_digits) line_feed
  filled long = rw (take_at first (drop set_digits line) set_digits long, drop_at first (drop set_digits line) set_digits long, drop-drop set_digits set_digits line)

  ended : length first ≡ set_digits → length second ≡ set_digits → set (first ++ (second ++ drop (2 * set_digits) line)) (2 * set_digits) line_feed ≡ first ++ second ++ (line_feed ∷ [])
  ended long long' =
      rw (
        drop-cons line (2 * set_digits) 0 (omega arith),
        drop_of_length-le line {i = line_bytes} (omega arith),
        ← append_assoc first second (get_or line (2 * set_digits) 0 ∷ []),
      ) (set_at (first ++ second) (get_or line (2 * set_digits) 0) [] line_feed (2 * set_digits) (omega (arith, length-append first second)))

  pub line_written : first ≡ write_hex (length (take set_digits line)) (place_of w).inputs
      → second ≡ write_hex (length (take set_digits (drop set_digits (first ++ drop set_digits line)))) (place_of w).outputs
      → set (put_mid set_digits set_digits (first ++ post_of 0 set_digits line) second) (2 * set_digits) line_feed ≡ place_line w
  unfolding place_line
  line_written e f =
      let e' : first ≡ write_hex set_digits (place_of w).inputs = rw (length-take-le set_digits line (omega arith)) at e in
      let long : length first ≡ set_digits = ap length e' ∙ length_write set_digits (place_of w).inputs in
      let behind = length-take-le set_digits (drop set_digits line) (omega (arith, length-drop set_digits line)) in
      let f' : second ≡ write_hex set_digits (place_of w).outputs = rw (drop_at first (drop set_digits line) set_digits long, behind) at f in
      filled long
      ∙ ended long (ap length f' ∙ length_write set_digits (place_of w).outputs)
      ∙ ap₂ (λ (a b : List ℕ). a ++ b ++ (line_feed ∷ [])) e' f'
