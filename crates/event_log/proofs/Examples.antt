-- The definitions of stepping through a checked log, tried on short texts.
-- Assumes nothing.
use Rattle.std.specs.Prelude.{drop, None, Some}
use Rattle.log_lines.specs.Reading.{count_in}
use Prim.Native.Nat.{ℕ}
use mathlib.Core.Path.{◌≡◌, refl}
use mathlib.Core.List.{List, [], ◌∷◌, map}
use Rattle.foundation.specs.Text.{bytes}
use Rattle.event_log_spec.specs.Frames.{Frame}
use Rattle.event_log_spec.specs.Lines.{frames_of, frame_at, frames_between}
use Rattle.event_log.specs.Stepping.{trace_end}
use Rattle.event_log.specs.declared.index.IndexedFrame.{IndexedFrame}
use Rattle.event_log.specs.FrameIndex.{frame_index, digits_start, activity_digits}
use Rattle.event_log.proofs.Opened.{opened}

abbrev two : List ℕ
two = bytes "000000010001\n000101FA000201\n"

pub record StepExamples : Type 0 where
  pub cases : count_in (drop 13 (bytes "000000010001\n000101FA0001\n")) ≡ Some 66042
  pub no_cases : count_in (drop 13 (bytes "000000010001\n000001F")) ≡ None
  pub end : trace_end (bytes "000000010001\n000001FA0001\n") 21 ≡ 25
  pub no_end : trace_end (bytes "000000010") 8 ≡ 10
  -- the traces end at bytes 12 and 27; one case, and 66,042
  pub index : map (λ (entry : IndexedFrame). entry.end ∷ entry.cases ∷ []) (frame_index 0 (frames_of two))
      ≡ (12 ∷ 1 ∷ []) ∷ (27 ∷ 66042 ∷ []) ∷ []
  pub starts : map (digits_start two) (0 ∷ 1 ∷ []) ≡ 8 ∷ 21 ∷ []
  pub second : (frame_at two 1).trace ≡ 0 ∷ 2 ∷ 1 ∷ []
  pub second_digits : activity_digits (frame_at two 1) ≡ bytes "000201"
  pub between : map (λ (f : Frame). f.cases) (frames_between 1 2 two) ≡ 66042 ∷ []

pub step_examples : StepExamples
unfolding opened
step_examples = record { cases = refl; no_cases = refl; end = refl; no_end = refl; index = refl; starts = refl; second = refl; second_digits = refl; between = refl }
