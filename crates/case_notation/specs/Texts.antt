-- Texts in the table.
-- Assumes nothing.
use Rattle.std.specs.Prelude.{ℕ, cond, Some, None, List, [], ◌∷◌, eqb, map, replicate}
use Rattle.std.specs.List.{flat_map}
use Rattle.std.specs.Option.{unwrap_or}
use Rattle.case_notation.specs.Fields.{split_once, words_of}
use Rattle.case_notation.specs.Numbers.{number_of}

-- ; is the line feed, _ the blank, ^ the carriage return, and any other byte itself
abbrev pub byte_meant : ℕ → ℕ
byte_meant b = cond (eqb b 59) 10 (cond (eqb b 95) 32 (cond (eqb b 94) 13 b))

-- how many times a piece stands there whose count is no number: 2 to the power 32
abbrev pub too_many : ℕ
too_many = 4294967296

-- a piece stands there once, and one with a star (42) stands for what follows the star, as many
-- times as the number before it says
abbrev pub copies : List ℕ → List (List ℕ)
copies piece =
    elim (split_once 42 piece) [ None ↦ piece ∷ [] | Some (count, bytes) ↦ replicate (unwrap_or (number_of 10 count) too_many) bytes ]

-- what the bytes of some copies stand for, one after the other
abbrev pub bytes_meant : List (List ℕ) → List ℕ
bytes_meant copies = map byte_meant (flat_map (λ bytes. bytes) copies)

-- a piece stands for what the bytes of its copies do
abbrev pub piece_meant : List ℕ → List ℕ
piece_meant piece = bytes_meant (copies piece)

-- a text stands for what the bytes of its pieces do, one after the other
abbrev pub text_meant : List ℕ → List ℕ
text_meant text = map byte_meant (flat_map (λ bytes. bytes) (flat_map copies (words_of text)))
