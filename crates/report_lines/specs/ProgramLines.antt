-- The lines of the program placelist, as its code reads and writes them: the settings frame of an
-- input, and the last line from what a run answers. Document 01, "Thinning and writing", last
-- paragraph.
-- Assumes nothing.
use Rattle.std.specs.Prelude.{ℕ, cond, List, [], ◌∷◌, ◌++◌, flat_map, Option, None, Some}
use Rattle.limits.specs.declared.Settings.{Settings}
use Rattle.hex_digits.specs.Digits.{write_hex, line_feed}
use Rattle.discovery_spec.specs.declared.Run.{Run}
use Rattle.discovery_spec.specs.Search.{end_number}
use Rattle.reporter_spec.specs.Program.{settings_malformed, settings_in, end_digits, value_digits}

-- the settings frame of an input: its settings, or none where it is malformed
unfoldable pub settings_frame_in : List ℕ → Option Settings
settings_frame_in input = cond (settings_malformed input) None (Some (settings_in input))

-- the last line, from what a run answers: its end, its replays, its visits
unfoldable pub run_line : Run → List ℕ
run_line x = write_hex end_digits (end_number x.end) ++ write_hex value_digits x.replays ++ write_hex value_digits x.visits ++ (line_feed ∷ [])

-- a field: a number, and in how many digits it is written
abbrev pub field_text : ℕ × ℕ → List ℕ
field_text field = write_hex field.1 field.0

-- a line of fields, each behind the one before, and its line feed
unfoldable pub fields_line : List (ℕ × ℕ) → List ℕ
fields_line fields = flat_map field_text fields ++ (line_feed ∷ [])
