-- How a text falls into lines, from its front: what its first byte does to its first line, and that
-- the other lines are those of the text after it. Each follows from the one equation of `lines`.
-- Assumes nothing.
use Prim.Native.Nat.{ℕ, suc, ◌≤◌}
use mathlib.Core.Path.{◌≡◌, refl}
use mathlib.Core.Bool.{true, false}
use mathlib.Core.List.{List, [], ◌∷◌}
use native.Mathlib.Omega.{arith}
use borrow.Author.Tests.{ne_eqb}
use lib.Dec.{eqb}
use lib.ListN.{length, drop, get_or}
use Rattle.foundation.proofs.laws.Booleans.{by_test}
use Rattle.hex_digits.specs.Digits.{line_feed}
use Rattle.event_log_spec.specs.Lines.{Line, put_first, lines, first_line}

-- a line with one byte more in front
abbrev pub with_byte : ℕ → Line → Line
with_byte byte l = record { bytes = byte ∷ l.bytes; ended = l.ended }

pub first_none : first_line [] ≡ record { bytes = []; ended = false }
unfolding first_line lines
first_none = refl

pub first_feed : (text : List ℕ) → first_line (line_feed ∷ text) ≡ record { bytes = []; ended = true }
unfolding first_line lines
first_feed text = refl

put_first_lem : (byte : ℕ) (ls : List Line)
    → get_or (put_first byte ls) 0 (record { bytes = []; ended = false }) ≡ with_byte byte (get_or ls 0 (record { bytes = []; ended = false }))
put_first_lem byte [] = refl
put_first_lem byte (l ∷ ls) = refl

pub first_byte : (byte : ℕ) (text : List ℕ) → (byte ≡ line_feed → ⊥) → first_line (byte ∷ text) ≡ with_byte byte (first_line text)
unfolding first_line lines
first_byte byte text other = rw (ne_eqb byte line_feed other) (put_first_lem byte (lines text))

-- a text with a byte has a first line, and its other lines are those of the text after that line's
-- line feed
pub lines_step : (text : List ℕ) → 1 ≤ length text → lines text ≡ first_line text ∷ lines (drop (suc (length (first_line text).bytes)) text)
unfolding lines first_line
lines_step [] some = absurd (omega arith)
lines_step (byte ∷ []) some =
    by_test (eqb byte line_feed) (λ e. rw e) (λ e. rw e)
lines_step (byte ∷ (next ∷ text)) some =
    by_test (eqb byte line_feed) (λ e. rw e) (λ e. rw e (rw (lines_step (next ∷ text) (omega arith)) refl))
