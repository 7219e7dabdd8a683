-- A text's lines, and the frame that a line's digits stand for. Document 01, "Settings and the log".
-- Assumes nothing.
use Rattle.std.specs.Prelude.{ℕ, ◌-◌, Bool, true, false, cond, List, [], ◌∷◌, ◌++◌, map, eqb, take, drop, get_or}
use Rattle.hex_digits.specs.Digits.{digit_value, read_hex, line_feed}
use Rattle.event_log_spec.specs.Frames.{Frame, count_digits, frame_in}

-- the bytes before a line feed; the last line of a text may lack it
pub record Line : Type 0 where
  pub bytes : List ℕ
  pub ended : Bool

-- the bytes of a line with the line feed that ends it, if one does
abbrev pub line_text : Line → List ℕ
line_text l = l.bytes ++ cond l.ended (line_feed ∷ []) []

-- a byte in front of the first line
abbrev pub put_first : ℕ → List Line → List Line
put_first byte [] = record { bytes = byte ∷ []; ended = false } ∷ []
put_first byte (l ∷ ls) = record { bytes = byte ∷ l.bytes; ended = l.ended } ∷ ls

-- a text's lines, each up to its line feed. A text that ends in a line feed has no line after it
unfoldable pub lines : List ℕ → List Line
lines [] = []
lines (byte ∷ text) = cond (eqb byte line_feed) (record { bytes = []; ended = true } ∷ lines text) (put_first byte (lines text))

-- the first line of a text; of a text with no byte, one with no byte
unfoldable pub first_line : List ℕ → Line
first_line text = get_or (lines text) 0 (record { bytes = []; ended = false })

-- the numbers that each two digits write
unfoldable pub read_pairs : List ℕ → List ℕ
read_pairs [] = []
read_pairs (d ∷ []) = []
read_pairs (d ∷ (e ∷ bytes)) = read_hex (d ∷ e ∷ []) ∷ read_pairs bytes

-- the activity codes of a trace's digits, two digits each: codes are below 16, so the second digit
-- of the two is the code
unfoldable pub codes_in : List ℕ → List ℕ
codes_in [] = []
codes_in (d ∷ []) = []
codes_in (d ∷ (e ∷ bytes)) = digit_value e ∷ codes_in bytes

-- the count, of so many digits, and behind it the activities, by two digits each
unfoldable pub frame_with : ℕ → Line → Frame
frame_with digits l = record { cases = read_hex (take digits l.bytes); trace = read_pairs (drop digits l.bytes) }

abbrev pub frame_of : Line → Frame
frame_of = frame_with count_digits

-- the frames of an accepted text
unfoldable pub frames_with : ℕ → List ℕ → List Frame
frames_with digits text = map (frame_with digits) (lines text)

abbrev pub frames_of : List ℕ → List Frame
frames_of = frames_with count_digits

-- one of them by its line, and those from one line on up to another
abbrev pub frame_at : List ℕ → ℕ → Frame
frame_at text = frame_in (frames_of text)

abbrev pub frames_between : ℕ → ℕ → List ℕ → List Frame
frames_between from to text = take (to - from) (drop from (frames_of text))
