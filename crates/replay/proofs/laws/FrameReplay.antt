-- The case counts of some frames of a log leave room for those of one more.
-- Assumes nothing.
use Prim.Native.Nat.{ℕ, ◌+◌, ◌-◌, ◌^◌, ◌<◌}
use native.Mathlib.Omega.{arith}
use mathlib.Core.List.{List}
use lib.ListN.{drop, length-take, length-drop}
use Rattle.foundation.proofs.laws.Each.{each_take, each_drop}
use Rattle.limits.specs.Settings.{most_activities}
use Rattle.places.specs.declared.Place.{Place}
use Rattle.event_log_spec.specs.Frames.{Frame, FrameUnder, WrittenLog}
use Rattle.event_log_spec.specs.Lines.{frames_of, frames_between}
use Rattle.replay_spec.specs.Judgement.{case_counts, cases_of}
use Rattle.replay_spec.proofs.laws.Counts.{counts_add_up}
use Rattle.event_log_spec.proofs.laws.Written.{total_bounded}

-- the cases of one more frame can be added
pub cases_fit : (p : Place) {text : List ℕ} → WrittenLog most_activities (frames_of text) text → (from line : ℕ) (f : Frame) → FrameUnder most_activities f
    → cases_of (case_counts p (frames_between from line text)) + f.cases < 2 ^ 64
cases_fit p {text} w from line f under =
    let some = frames_between from line text in
    omega (
      arith,
      counts_add_up p some,
      total_bounded (each_take (line - from) (each_drop from w.each)),
      length-take (line - from) (drop from (frames_of text)),
      length-drop from (frames_of text),
      w.few_frames,
      under.countable,
    )
