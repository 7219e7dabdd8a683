-- The parts of a text, as the words of a line.
-- Assumes nothing.
use Rattle.std.specs.Prelude.{ℕ, zero, suc, ◌+◌, cond, Option, List, [], ◌∷◌, eqb, take, drop, position}
use Rattle.std.specs.List.{before_first, after_first, onto_first}
use Rattle.std.specs.Option.{option_map}

-- what stands before the first such byte, and what stands after it
abbrev pub part_before : ℕ → List ℕ → List ℕ
part_before byte text = before_first (λ b. eqb b byte) text

abbrev pub part_after : ℕ → List ℕ → List ℕ
part_after byte text = after_first (λ b. eqb b byte) text

-- both, of a text that has such a byte
abbrev pub split_once : ℕ → List ℕ → Option (List ℕ × List ℕ)
split_once byte text = option_map (λ at. (take at text, drop (at + 1) text)) (position (λ b. eqb b byte) text)

-- what follows so many words, each with a blank (32) after it
unfoldable pub rest_after : ℕ → List ℕ → List ℕ
rest_after zero line = line
rest_after (suc n) line = rest_after n (part_after 32 line)

-- the word that follows so many
abbrev pub word_at : ℕ → List ℕ → List ℕ
word_at index line = part_before 32 (rest_after index line)

-- all parts of a text, each of which ends before such a byte or with the text
unfoldable pub parts_of : ℕ → List ℕ → List (List ℕ)
parts_of byte [] = []
parts_of byte (x ∷ xs) = cond (eqb x byte) ([] ∷ parts_of byte xs) (onto_first x (parts_of byte xs))

-- the words of a text, which have a blank between two
abbrev pub words_of : List ℕ → List (List ℕ)
words_of = parts_of 32
