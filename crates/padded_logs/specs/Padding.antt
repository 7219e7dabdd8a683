-- A log of four-digit case counts as one of eight: 0000 is put before every line. Document 02, a).
-- Assumes nothing.
use Rattle.std.specs.Prelude.{ℕ, ◌+◌, List, ◌++◌, take}
use mathlib.Core.List.{flat_map}
use Rattle.foundation.specs.Text.{bytes}
use Rattle.event_log_spec.specs.Lines.{Line, line_text, lines}
use Rattle.reporter_spec.specs.Program.{settings_digits, log_in}

-- the digits that a case count had before
abbrev pub former_count_digits : ℕ
former_count_digits = 4

-- what is put before a line
abbrev pub zeros : List ℕ
zeros = bytes "0000"

-- a line with the zeros before it
abbrev pub padded_line : Line → Line
padded_line l = record { bytes = zeros ++ l.bytes; ended = l.ended }

-- the zeros before every line of a text, whether it is a frame or not, and before a last line that
-- lacks its line feed
unfoldable pub padded : List ℕ → List ℕ
padded text = flat_map (λ (l : Line). zeros ++ line_text l) (lines text)

-- an input of the program placelist with its log so padded; the settings frame stays as it is
unfoldable pub padded_input : List ℕ → List ℕ
padded_input input = take (settings_digits + 1) input ++ padded (log_in input)
