-- A log of four-digit case counts that was not padded is refused at its first line, whatever it
-- holds: it is never read as another log. Document 02, a).
-- Assumes nothing.
use Rattle.std.specs.Prelude.{ℕ, ◌≤◌, ◌≡◌, List, length, Ok, Err}
use Rattle.limits.specs.declared.Refusal.TheVariants.{MalformedFrame, MisplacedEndpoint}
use Rattle.event_log_spec.specs.declared.LogSize.{LogSize}
use Rattle.event_log_spec.specs.Checking.{checked_with, checked}
use Rattle.replay_spec.specs.Answers.{first_trace_with}
use Rattle.padded_logs.specs.Padding.{former_count_digits}

-- the activities of its first line, read with four digits
abbrev pub former_trace : List ℕ → List ℕ
former_trace = first_trace_with former_count_digits

-- with two or three of them the line is too short; with more, it now begins with one that stood
-- inside the trace
pub data RefusedAtFirst (A : ℕ) (text : List ℕ) : Type 0 where
  too_short : length (former_trace text) ≤ 3 → checked A text ≡ Err (MalformedFrame 0) → RefusedAtFirst A text
  misplaced : 4 ≤ length (former_trace text) → checked A text ≡ Err (MisplacedEndpoint 0) → RefusedAtFirst A text

unfoldable pub NeverMisread : Type 0
NeverMisread = (A : ℕ) (text : List ℕ) (size : LogSize) → checked_with former_count_digits A text ≡ Ok size → RefusedAtFirst A text
