-- The lines of the program, tried on a run's answer and on inputs with and without a settings frame.
-- Assumes nothing.
use Rattle.std.specs.Prelude.{None, Some}
use mathlib.Core.Path.{◌≡◌, refl}
use Rattle.foundation.specs.Text.{bytes}
use Rattle.discovery_spec.specs.declared.End.TheVariants.{BudgetSpent}
use Rattle.report_lines.specs.ProgramLines.{settings_frame_in, run_line}
use Rattle.report_lines.proofs.Opened.{opened}

pub record Examples : Type 0 where
  pub last_line : run_line (record { end = BudgetSpent; found = 3; rejected = 9; replays = 255; visits = 4096 }) ≡ bytes "01000000FF00001000\n"
  pub frame : settings_frame_in (bytes "0B020103E8\n") ≡ Some (record { activities = 11; inputs = 2; outputs = 1; threshold = 1000 })
  pub no_line_feed : settings_frame_in (bytes "0B020103E8") ≡ None
  pub lower_case : settings_frame_in (bytes "0b020103E8\n") ≡ None

pub examples : Examples
unfolding opened
examples = record { last_line = refl; frame = refl; no_line_feed = refl; lower_case = refl }
