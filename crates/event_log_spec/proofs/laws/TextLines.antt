-- A text and its lines: the lines one after the other, each with the line feed that ends it, are
-- the text; digits, then a line feed, are the first line of the text that begins with them; so the
-- lines of frames written one after the other are the frames' lines.
-- Assumes nothing.
use Prim.Native.Nat.{ℕ}
use mathlib.Core.Path.{◌≡◌, refl, sym, ap, ap₂, ◌∙◌}
use mathlib.Core.Bool.{true, false≢true}
use mathlib.Core.List.{List, [], ◌∷◌, ◌++◌, map, flat_map, append_assoc}
use borrow.Author.Tests.{eqb-true, ne_eqb}
use lib.Dec.{eqb}
use Rattle.foundation.specs.Lists.{each_nil, each_cons}
use Rattle.foundation.proofs.laws.Booleans.{by_test}
use Rattle.hex_digits.specs.Digits.{digit_of, is_digit, line_feed}
use Rattle.event_log_spec.specs.Frames.{Frame, write_frame, written_with}
use Rattle.event_log_spec.specs.Lines.{Line, line_text, put_first, lines}
use Rattle.hex_digits.proofs.laws.DigitLaws.{EachDigit}
use Rattle.event_log_spec.proofs.laws.FrameLines.{frame_line, frame_digits}

put_text : (byte : ℕ) (ls : List Line) → flat_map line_text (put_first byte ls) ≡ byte ∷ flat_map line_text ls
unfolding flat_map
put_text byte [] = refl
put_text byte (l ∷ ls) = refl

pub text_of_lines : (text : List ℕ) → flat_map line_text (lines text) ≡ text
unfolding lines flat_map
text_of_lines [] = refl
text_of_lines (byte ∷ text) =
    by_test
    (eqb byte line_feed)
    (λ t. rw t (ap₂ ◌∷◌ (sym (eqb-true byte line_feed t)) (text_of_lines text)))
    (λ f. rw f (put_text byte (lines text) ∙ ap (◌∷◌ byte) (text_of_lines text)))

pub digit_no_feed : (byte : ℕ) → is_digit byte ≡ true → byte ≡ line_feed → ⊥
unfolding is_digit digit_of
digit_no_feed byte digit feed = false≢true (rw feed at digit)

pub lines_after_digits : {bytes : List ℕ} (text : List ℕ) → EachDigit bytes
    → lines (bytes ++ (line_feed ∷ text)) ≡ record { bytes = bytes; ended = true } ∷ lines text
unfolding lines
lines_after_digits text each_nil = refl
lines_after_digits text (each_cons {x = byte} digit digits) =
    rw (ne_eqb byte line_feed (digit_no_feed byte digit), lines_after_digits text digits)

pub written_text : (f : Frame) → write_frame f ≡ line_text (frame_line f)
unfolding written_with
written_text f = refl

pub lines_written : (frames : List Frame) → lines (flat_map write_frame frames) ≡ map frame_line frames
unfolding lines flat_map written_with
lines_written [] = refl
lines_written (f ∷ frames) =
    let later = flat_map write_frame frames in
    rw (append_assoc (frame_line f).bytes (line_feed ∷ []) later, lines_after_digits later (frame_digits f))
    (ap (◌∷◌ (frame_line f)) (lines_written frames))
