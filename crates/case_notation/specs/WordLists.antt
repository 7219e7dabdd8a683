-- Lists of words in the table.
-- Assumes nothing.
use Rattle.std.specs.Prelude.{ℕ, ◌+◌, ◌-◌, List}
use Rattle.std.specs.List.{flat_map, range_with_len}
use Rattle.std.specs.Option.{unwrap_or}
use Rattle.case_notation.specs.Fields.{split_once, words_of}
use Rattle.case_notation.specs.Numbers.{number_of}

-- the word that hexadecimal digits write; what is no number is the word 0
abbrev pub word_of : List ℕ → ℕ
word_of digits = unwrap_or (number_of 16 digits) 0

-- the words from one to another, which may be the same
abbrev pub between : ℕ → ℕ → List ℕ
between first last = range_with_len first (last + 1 - first)

-- a word alone is the first and the last, and two with a dash (45) are these
abbrev pub ends : List ℕ → ℕ × ℕ
ends run = let parts = unwrap_or (split_once 45 run) (run, run) in (word_of parts.0, word_of parts.1)

-- all words from the first to the last
abbrev pub run_meant : List ℕ → List ℕ
run_meant run = between (ends run).0 (ends run).1

abbrev pub list_meant : List ℕ → List ℕ
list_meant text = flat_map run_meant (words_of text)
