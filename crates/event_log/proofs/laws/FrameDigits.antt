-- The activity digits of a frame: they are digits, two for each of at most 254 activities, and the
-- codes in them are the frame's trace.
-- Assumes nothing.
use Prim.Native.Nat.{ℕ, ◌*◌, ◌≤◌}
use native.Mathlib.Omega.{arith}
use mathlib.Core.Path.{◌≡◌}
use mathlib.Core.Bool.{true}
use mathlib.Core.List.{List}
use lib.ListN.{length}
use Rattle.std.specs.List.{list_all}
use Rattle.foundation.proofs.laws.Each.{each_all}
use Rattle.limits.specs.Settings.{most_activities}
use Rattle.hex_digits.specs.Digits.{is_digit}
use Rattle.event_log_spec.specs.Frames.{Frame, FrameUnder, most_events}
use Rattle.event_log_spec.specs.Lines.{codes_in}
use Rattle.event_log_spec.proofs.laws.PairLaws.{length_pairs, pairs_digits}
use Rattle.event_log_spec.proofs.laws.CodeDigits.{codes_written}
use Rattle.event_log.specs.FrameIndex.{activity_digits}

-- digits of which the codes are the frame's trace
pub record DigitsOf (f : Frame) (digits : List ℕ) : Type 0 where
  pub short : length digits ≤ 2 * most_events
  pub all_digits : list_all is_digit digits ≡ true
  pub trace : codes_in digits ≡ f.trace

pub frame_digits : (f : Frame) → FrameUnder most_activities f → DigitsOf f (activity_digits f)
frame_digits f under =
    record {
      short = omega (arith, length_pairs f.trace, under.short);
      all_digits = each_all is_digit (pairs_digits f.trace);
      trace = codes_written under.known;
    }
