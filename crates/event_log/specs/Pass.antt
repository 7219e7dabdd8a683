-- What is left of checking a log once the checks before those of the text have passed, and what one
-- pass over the lines of a text answers.
-- Assumes nothing.
use Rattle.std.specs.Prelude.{ℕ, List, None, Result}
use Rattle.limits.specs.declared.Refusal.{Refusal}
use Rattle.limits.specs.Refusals.{answered}
use Rattle.event_log_spec.specs.declared.LogSize.{LogSize}
use Rattle.event_log_spec.specs.Checking.{text_fault, log_refusal, size_of}

-- checking a text for a call whose settings and places have passed: number 6, then the lines
unfoldable pub text_checked : ℕ → List ℕ → Result LogSize Refusal
text_checked A text = answered (log_refusal None None A text) (size_of text)

-- checking the lines of a text
unfoldable pub lines_checked : ℕ → List ℕ → Result LogSize Refusal
lines_checked A text = answered (text_fault A text) (size_of text)
