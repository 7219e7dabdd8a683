-- What the steps of checking a line answer, each from the line's own definitions. A line is read
-- once, from its front: its count, then its activities up to the line feed.
-- Assumes nothing.
use Rattle.std.specs.Prelude.{ℕ, suc, ◌+◌, ◌%◌, Bool, true, false, cond, not, ◌&&◌, List, eqb, leb, length, take, Option, None, Some, Result}
use Rattle.std.specs.List.{list_all}
use Rattle.limits.specs.declared.Refusal.{Refusal}
use Rattle.limits.specs.Refusals.{answered}
use Rattle.log_lines.specs.declared.Activities.{Activities}
use Rattle.log_lines.specs.declared.CheckedLine.{CheckedLine}
use Rattle.log_lines.specs.declared.Phase.{Phase}
use Rattle.log_lines.specs.declared.Phase.TheVariants.{Before, Inside, Complete, Misplaced}
use Rattle.hex_digits.specs.Digits.{is_digit, read_hex}
use Rattle.event_log_spec.specs.Frames.{count_digits}
use Rattle.event_log_spec.specs.Lines.{Line, read_pairs, frame_of}
use Rattle.event_log_spec.specs.Checking.{names_unknown, endpoint_misplaced, line_fault}

-- the case count that a text begins with: as many digits as a count has, and not all of them 0
unfoldable pub count_in : List ℕ → Option ℕ
count_in text =
    cond
    (leb count_digits (length text) && list_all is_digit (take count_digits text) && not (eqb (read_hex (take count_digits text)) 0))
    (Some (read_hex (take count_digits text)))
    None

-- where a trace stands after one event more (Definition 1): the start, then activities that are
-- neither, then the end and nothing more
unfoldable pub next_phase : Phase → ℕ → Phase
next_phase Before code = cond (eqb code 0) Inside Misplaced
next_phase Inside code = cond (eqb code 0) Misplaced (cond (eqb code 1) Complete Inside)
next_phase Complete code = Misplaced
next_phase Misplaced code = Misplaced

-- a trace that ends so is no behaviour
abbrev pub incomplete : Phase → Bool
incomplete Before = true
incomplete Inside = true
incomplete Complete = false
incomplete Misplaced = true

-- a line that ends and has two digits for each activity
unfoldable pub in_pairs : Line → Bool
in_pairs l = l.ended && eqb (length l.bytes % 2) 0 && list_all is_digit l.bytes

-- activities that end at a line feed there, and whether they have a fault
abbrev pub activities : ℕ → Bool → Bool → Activities
activities end unknown misplaced = record { end = end; unknown = unknown; misplaced = misplaced }

-- what the rest of a line after its count says of the activities: where its line feed stands, and
-- whether they have a fault
unfoldable pub activities_in : ℕ → ℕ → Line → Option Activities
activities_in A from l =
    cond
    (in_pairs l)
    (Some (activities (from + length l.bytes) (names_unknown A (read_pairs l.bytes)) (endpoint_misplaced (read_pairs l.bytes))))
    None

-- a line that has no fault, after which the text goes on at an index, with its case count
abbrev pub checked_line : ℕ → ℕ → CheckedLine
checked_line next cases = record { next = next; cases = cases }

-- checking the line that begins at `from`: the index after its line feed and its case count, or its
-- first fault
unfoldable pub line_checked : ℕ → ℕ → ℕ → Line → Result CheckedLine Refusal
line_checked A line from l = answered (line_fault A line l) (checked_line (suc (from + length l.bytes)) (frame_of l).cases)
