-- Stepping over a trace of a log that was checked: where the activity digits from an index end.
-- Document 01, "Settings and the log". It takes any text; of a log's frames it gives the frames' own
-- ends.
-- Assumes nothing.
use Rattle.std.specs.Prelude.{ℕ, ◌+◌, cond, List, [], ◌∷◌, eqb, drop}
use Rattle.hex_digits.specs.Digits.{line_feed}

-- the bytes that stand in pairs before the first pair that begins with a line feed; a last byte
-- alone counts as a pair
unfoldable pub pairs_length : List ℕ → ℕ
pairs_length [] = 0
pairs_length (d ∷ []) = cond (eqb d line_feed) 0 2
pairs_length (d ∷ (e ∷ bytes)) = cond (eqb d line_feed) 0 (2 + pairs_length bytes)

-- the index of the line feed after the activity digits, two for each activity, that begin at the index
unfoldable pub trace_end : List ℕ → ℕ → ℕ
trace_end text from = from + pairs_length (drop from text)
