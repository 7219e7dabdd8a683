-- The program placelist, from the bytes that it reads to the bytes that it writes. Document 01,
-- "Thinning and writing", last paragraph.
-- Assumes nothing.
use Rattle.std.specs.Prelude.{ℕ, ◌+◌, ◌*◌, Bool, not, cond, ◌&&◌, List, [], ◌∷◌, ◌++◌, eqb, ltb, length, get_or, take, drop, Option}
use Rattle.std.specs.List.{list_all}
use Rattle.limits.specs.declared.Refusal.{Refusal}
use Rattle.limits.specs.declared.Refusal.TheVariants.{InvalidSetting, TooLarge}
use Rattle.limits.specs.declared.Settings.{Settings}
use Rattle.limits.specs.Refusals.{number, value, given, first_of, answer}
use Rattle.hex_digits.specs.Digits.{is_digit, read_hex, write_hex, line_feed}
use Rattle.discovery_spec.specs.Search.{Capacity, holding, end_number, is_completed, Progress, end_of, state_of}
use Rattle.event_log_spec.specs.Frames.{count_digits}
use Rattle.discovery_spec.specs.Discovery.{run_with, run_refusal_with}
use Rattle.reduction_spec.specs.Reduction.{reduced_words}
use Rattle.writer.specs.Writing.{list_text}

-- the most bytes that it reads
abbrev pub most_input : ℕ
most_input = 65536

-- the words of its list
abbrev pub list_words : ℕ
list_words = 4096

-- what it gives its run: cache, list and replay budget
unfoldable pub capacity : Capacity
capacity = holding 1024 list_words 1000000

-- the digits of A, mi and mo each, of T, and of all four
abbrev pub bound_digits : ℕ
bound_digits = 2

abbrev pub threshold_digits : ℕ
threshold_digits = 4

abbrev pub settings_digits : ℕ
settings_digits = 3 * bound_digits + threshold_digits

-- the settings frame, the first line: the digits of A, mi, mo and T, a line feed
unfoldable pub settings_malformed : List ℕ → Bool
settings_malformed input = not (list_all is_digit (take settings_digits input) && eqb (get_or input settings_digits 0) line_feed)

-- the settings that it writes
unfoldable pub settings_in : List ℕ → Settings
settings_in input =
    record {
      activities = read_hex (take bound_digits input);
      inputs = read_hex (take bound_digits (drop bound_digits input));
      outputs = read_hex (take bound_digits (drop (2 * bound_digits) input));
      threshold = read_hex (take threshold_digits (drop (3 * bound_digits) input));
    }

-- the log is what follows it
unfoldable pub log_in : List ℕ → List ℕ
log_in input = drop (settings_digits + 1) input

-- the digits of an end, and of the FF and the number of a refusal; and those of replays, visits and
-- a refusal's value
abbrev pub end_digits : ℕ
end_digits = 2

abbrev pub value_digits : ℕ
value_digits = 8

-- the line of a refusal: FF, its number, and the line or other value beside it
unfoldable pub refusal_line : Refusal → List ℕ
refusal_line r = write_hex end_digits 0xFF ++ write_hex end_digits (number r) ++ write_hex value_digits (value r) ++ (line_feed ∷ [])

-- its bytes
abbrev pub refusal_bytes : ℕ
refusal_bytes = 2 * end_digits + value_digits + 1

-- the last line: the end, the replays, the visits
unfoldable pub result_line : Progress → List ℕ
result_line p =
    write_hex end_digits (end_number (end_of p)) ++ write_hex value_digits (state_of p).replays ++ write_hex value_digits (state_of p).visits ++ (line_feed ∷ [])

-- its bytes
abbrev pub result_bytes : ℕ
result_bytes = end_digits + 2 * value_digits + 1

-- the list that it writes: reduced if the run completed, as found otherwise
unfoldable pub reported_words : Progress → List ℕ
reported_words p = cond (is_completed (end_of p)) (reduced_words (state_of p).found) (state_of p).found

-- the list, then the last line
unfoldable pub report : Progress → List ℕ
report p = list_text (reported_words p) ++ result_line p

-- with so many digits in a case count
module _ (digits : ℕ) where
  -- first an input that is too long (oversize, line 0), then the form of the settings frame (number
  -- 1), then what the search refuses
  unfoldable pub program_refusal_with : List ℕ → Option Refusal
  program_refusal_with input =
      first_of
      (given (ltb most_input (length input)) (TooLarge 0)
      ∷ given (settings_malformed input) InvalidSetting
      ∷ run_refusal_with digits (settings_in input) (log_in input)
      ∷ [])

  -- all that placelist writes for what it reads
  unfoldable pub placelist_with : List ℕ → List ℕ
  placelist_with input =
      answer
      refusal_line
      (program_refusal_with input)
      (report (run_with digits (settings_in input) (log_in input) capacity))

-- both as the program has them
abbrev pub program_refusal : List ℕ → Option Refusal
program_refusal = program_refusal_with count_digits

abbrev pub placelist : List ℕ → List ℕ
placelist = placelist_with count_digits
