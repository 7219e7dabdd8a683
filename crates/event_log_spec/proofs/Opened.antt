-- One name for all definitions of this layer and of those below it: a proof by computation says
-- `unfolding opened`.
-- Assumes nothing.
use mathlib.Core.List.{flat_map}
use Rattle.event_log_spec.specs.Frames.{written_with, total_cases}
use Rattle.event_log_spec.specs.Lines.{lines, first_line, read_pairs, codes_in, frame_with, frames_with}
use Rattle.event_log_spec.specs.Checking.{malformed_with, names_unknown, endpoint_misplaced, line_fault_with, lines_fault_with, empty_fault, text_fault_with, log_refusal_with, checked_with}
use Rattle.limits.proofs.Opened.{opened as opened_limits}
use Rattle.hex_digits.proofs.Opened.{opened as opened_digits}

unfoldable pub opened : Unit {0}
unfolding flat_map written_with total_cases lines first_line read_pairs codes_in frame_with frames_with malformed_with names_unknown endpoint_misplaced line_fault_with lines_fault_with empty_fault text_fault_with log_refusal_with checked_with opened_limits opened_digits
opened = tt
