-- A log under an activity bound is a log under every larger one: only the codes of its activities
-- are held to the bound. So a text that is accepted is a log under the widest.
-- Assumes nothing.
use Prim.Native.Nat.{ℕ, ◌≤◌}
use native.Mathlib.Omega.{arith}
use mathlib.Core.Path.{◌≡◌}
use mathlib.Core.List.{List}
use Rattle.std.specs.Prelude.{Ok}
use Rattle.foundation.proofs.laws.Each.{each_imply}
use Rattle.limits.specs.Settings.{most_activities}
use Rattle.event_log_spec.specs.declared.LogSize.{LogSize}
use Rattle.event_log_spec.specs.Frames.{Frame, FrameUnder, WrittenLog}
use Rattle.event_log_spec.specs.Lines.{frames_of}
use Rattle.event_log_spec.specs.Checking.{checked}
use Rattle.event_log_spec.proofs.laws.Written.{accepted_written, bound_most}

module _ {A B : ℕ} (wider : A ≤ B) where
  frame_wider : (f : Frame) → FrameUnder A f → FrameUnder B f
  frame_wider f u =
      record {
        counted = u.counted;
        countable = u.countable;
        long = u.long;
        short = u.short;
        known = each_imply (λ a h. omega arith) u.known;
        behaviour = u.behaviour;
      }

  pub log_wider : {frames : List Frame} {text : List ℕ} → WrittenLog A frames text → WrittenLog B frames text
  log_wider w =
      record {
        some_frame = w.some_frame;
        few_frames = w.few_frames;
        each = each_imply frame_wider w.each;
        in_order = w.in_order;
      }

pub accepted_widest : (A : ℕ) (text : List ℕ) (size : LogSize) → checked A text ≡ Ok size → WrittenLog most_activities (frames_of text) text
accepted_widest A text size accepted =
    let log = accepted_written A text size.frames size.cases accepted in
    log_wider (bound_most A log.in_range) log.written
