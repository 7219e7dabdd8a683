-- What checking a log answers. Document 01, "Settings and the log": numbers 2 to 6 of the table,
-- and the order of checks in a text and a line.
-- Assumes nothing.
use Rattle.std.specs.Prelude.{ℕ, suc, ◌-◌, ◌%◌, Bool, not, ◌||◌, List, [], ◌∷◌, eqb, ltb, leb, length, take, drop, get_or, Option, None, Result}
use Rattle.std.specs.List.{list_all, list_any}
use Rattle.limits.specs.declared.Refusal.{Refusal}
use Rattle.limits.specs.declared.Refusal.TheVariants.{MalformedFrame, UnknownActivity, MisplacedEndpoint, TooLarge, EmptyLog}
use Rattle.limits.specs.Refusals.{given, first_of, first_refusal, answered}
use Rattle.limits.specs.Settings.{bound_fault}
use Rattle.event_log_spec.specs.declared.LogSize.{LogSize}
use Rattle.hex_digits.specs.Digits.{is_digit}
use Rattle.event_log_spec.specs.Frames.{Frame, count_digits, most_events, most_frames, shortest_with, total_cases}
use Rattle.event_log_spec.specs.Lines.{Line, lines, frame_with, frames_with, frames_of}

-- number 3, stranger
unfoldable pub names_unknown : ℕ → List ℕ → Bool
names_unknown A trace = list_any (leb A) trace

-- number 4, loose ends: a wrong first or last activity, or one of the two endpoints between them
unfoldable pub endpoint_misplaced : List ℕ → Bool
endpoint_misplaced trace =
    not (eqb (get_or trace 0 0) 0)
    || not (eqb (get_or trace (length trace - 1) 0) 1)
    || list_any (λ (a : ℕ). leb a 1) (take (length trace - 2) (drop 1 trace))

-- number 6, empty log
unfoldable pub empty_fault : List ℕ → Option Refusal
empty_fault text = given (eqb (length text) 0) EmptyLog

-- so many frames and so many cases
abbrev pub log_size : ℕ → ℕ → LogSize
log_size frames cases = record { frames = frames; cases = cases }

-- how many frames there are, and N
abbrev pub size_over : List Frame → LogSize
size_over frames = log_size (length frames) (total_cases frames)

-- with so many digits in a case count
module _ (digits : ℕ) where
  -- number 2, broken frame
  unfoldable pub malformed_with : Line → Bool
  malformed_with l =
      not l.ended
      || eqb (length l.bytes % 2) 1
      || ltb (length l.bytes) (shortest_with digits)
      || not (list_all is_digit l.bytes)
      || eqb (frame_with digits l).cases 0

  -- the first fault of a line: 5 (oversize) by its index, 2, 5 by its length, 3, 4
  unfoldable pub line_fault_with : ℕ → ℕ → Line → Option Refusal
  line_fault_with A line l =
      first_of
      (given (leb most_frames line) (TooLarge line)
      ∷ given (malformed_with l) (MalformedFrame line)
      ∷ given (ltb most_events (length (frame_with digits l).trace)) (TooLarge line)
      ∷ given (names_unknown A (frame_with digits l).trace) (UnknownActivity line)
      ∷ given (endpoint_misplaced (frame_with digits l).trace) (MisplacedEndpoint line)
      ∷ [])

  -- the first faulty line decides; the lines are counted from `line`
  unfoldable pub lines_fault_with : ℕ → ℕ → List Line → Option Refusal
  lines_fault_with A line [] = None
  lines_fault_with A line (l ∷ ls) = first_of (line_fault_with A line l ∷ lines_fault_with A (suc line) ls ∷ [])

  -- what the lines of a text give
  unfoldable pub text_fault_with : ℕ → List ℕ → Option Refusal
  text_fault_with A text = lines_fault_with A 0 (lines text)

  -- the refusal of a call that is lent a log: what its settings and its place give, then what the
  -- text gives under A
  unfoldable pub log_refusal_with : Option Refusal → Option Refusal → ℕ → List ℕ → Option Refusal
  log_refusal_with settings places A text =
      first_refusal
      (record {
        settings = settings;
        arguments = None;
        places = places;
        map = None;
        room = None;
        emptiness = empty_fault text;
        lines = text_fault_with A text;
        result_room = None;
      })

  -- checking takes A and the text, and answers how many frames there are, and N
  unfoldable pub checked_with : ℕ → List ℕ → Result LogSize Refusal
  checked_with A text = answered (log_refusal_with (bound_fault A) None A text) (size_over (frames_with digits text))

-- each of them as a call has it
abbrev pub malformed : Line → Bool
malformed = malformed_with count_digits

abbrev pub line_fault : ℕ → ℕ → Line → Option Refusal
line_fault = line_fault_with count_digits

abbrev pub lines_fault : ℕ → ℕ → List Line → Option Refusal
lines_fault = lines_fault_with count_digits

abbrev pub text_fault : ℕ → List ℕ → Option Refusal
text_fault = text_fault_with count_digits

abbrev pub log_refusal : Option Refusal → Option Refusal → ℕ → List ℕ → Option Refusal
log_refusal = log_refusal_with count_digits

-- how many frames a text has, and N
abbrev pub size_of : List ℕ → LogSize
size_of text = size_over (frames_of text)

abbrev pub checked : ℕ → List ℕ → Result LogSize Refusal
checked = checked_with count_digits
