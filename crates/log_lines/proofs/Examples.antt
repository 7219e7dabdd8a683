-- The definitions of reading a line, tried on short lines.
-- Assumes nothing.
use Rattle.std.specs.Prelude.{None, Some, Ok, Err}
use mathlib.Core.Path.{◌≡◌, refl}
use mathlib.Core.Bool.{true, false}
use mathlib.Core.List.{[], ◌∷◌}
use Rattle.foundation.specs.Text.{bytes}
use Rattle.std.specs.List.{fold}
use Rattle.limits.specs.declared.Refusal.TheVariants.{MisplacedEndpoint}
use Rattle.event_log_spec.specs.Lines.{first_line}
use Rattle.log_lines.specs.declared.Phase.TheVariants.{Before, Inside, Complete, Misplaced}
use Rattle.log_lines.specs.Reading.{count_in, next_phase, activities, activities_in, checked_line, line_checked}
use Rattle.log_lines.proofs.Opened.{opened}

pub record LineExamples : Type 0 where
  pub count : count_in (bytes "000101FA00") ≡ Some 66042
  pub count_zero : count_in (bytes "0000000001") ≡ None
  pub count_short : count_in (bytes "000001F") ≡ None
  pub complete : fold next_phase Before (0 ∷ 2 ∷ 5 ∷ 1 ∷ []) ≡ Complete
  pub unended : fold next_phase Before (0 ∷ 2 ∷ 5 ∷ []) ≡ Inside
  pub ended_twice : fold next_phase Before (0 ∷ 1 ∷ 1 ∷ []) ≡ Misplaced
  pub started_twice : fold next_phase Before (0 ∷ 0 ∷ 1 ∷ []) ≡ Misplaced
  pub read : activities_in 6 8 (first_line (bytes "000201\n0000")) ≡ Some (activities 14 false false)
  pub unknown : activities_in 2 8 (first_line (bytes "000200\n")) ≡ Some (activities 14 true true)
  pub odd : activities_in 6 8 (first_line (bytes "00020\n")) ≡ None
  pub sound : line_checked 6 3 20 (first_line (bytes "000101FA0001\n")) ≡ Ok (checked_line 33 66042)
  pub faulty : line_checked 6 3 20 (first_line (bytes "000001FA0101\n")) ≡ Err (MisplacedEndpoint 3)

pub line_examples : LineExamples
unfolding opened
line_examples =
    record {
      count = refl;
      count_zero = refl;
      count_short = refl;
      complete = refl;
      unended = refl;
      ended_twice = refl;
      started_twice = refl;
      read = refl;
      unknown = refl;
      odd = refl;
      sound = refl;
      faulty = refl;
    }
