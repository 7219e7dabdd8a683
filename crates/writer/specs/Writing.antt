-- Writing a list of places as text. Document 01, "Thinning and writing", the writer.
-- Assumes nothing.
use Rattle.std.specs.Prelude.{ℕ, ◌+◌, ◌*◌, ltb, length, Option, Result}
use mathlib.Core.List.{List, [], ◌∷◌, ◌++◌, flat_map}
use Rattle.foundation.specs.Buffers.{overwrite}
use Rattle.limits.specs.declared.Refusal.{Refusal}
use Rattle.limits.specs.Refusals.{answer, answered}
use Rattle.places.specs.Places.{place_of, words_refusal}
use Rattle.hex_digits.specs.Digits.{write_hex, line_feed}

-- the digits of a set, and the bytes of a place's line
abbrev pub set_digits : ℕ
set_digits = 4

abbrev pub line_bytes : ℕ
line_bytes = 2 * set_digits + 1

-- the line of a place: the digits of its inputs, those of its outputs, a line feed
unfoldable pub place_line : ℕ → List ℕ
place_line w = write_hex set_digits (place_of w).inputs ++ write_hex set_digits (place_of w).outputs ++ (line_feed ∷ [])

-- the lines of a list
unfoldable pub list_text : List ℕ → List ℕ
list_text words = flat_map place_line words

-- the buffer is to have room for the line of each place
unfoldable pub writing_refusal : List ℕ → ℕ → Option Refusal
writing_refusal words room = words_refusal words (ltb room (line_bytes * length words))

-- the call's answer for a buffer of that many bytes: the bytes written
unfoldable pub written : List ℕ → ℕ → Result ℕ Refusal
written words room = answered (writing_refusal words room) (length (list_text words))

-- what the buffer holds on return: the lines, then its old tail; after a refusal, what it held before
unfoldable pub written_after : List ℕ → List ℕ → List ℕ
written_after words before =
    answer (λ (r : Refusal). before) (writing_refusal words (length before)) (overwrite (list_text words) before)
