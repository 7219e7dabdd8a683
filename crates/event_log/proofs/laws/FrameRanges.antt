-- The frames of a log from one line on up to another: up to the line itself there is none, one line
-- further there is the frame of that line more, and from the first line up to the number of frames
-- there are all.
-- Assumes nothing.
use Prim.Native.Nat.{ℕ, suc, ◌+◌, ◌-◌, ◌≤◌, ◌<◌}
use native.Mathlib.Nat.{sub-zero}
use native.Mathlib.Omega.{arith}
use mathlib.Core.Path.{◌≡◌}
use mathlib.Core.List.{List, [], ◌∷◌, ◌++◌}
use lib.ListN.{length, drop, length-drop}
use lib.Seq.{take-suc, take-length, get_or-drop}
use Rattle.event_log_spec.specs.Frames.{Frame}
use Rattle.event_log_spec.specs.Lines.{frames_of, frame_at, frames_between}

module _ (text : List ℕ) where
  pub frames_none : (line : ℕ) → frames_between line line text ≡ []
  frames_none line = let size : line - line ≡ 0 = omega arith in rw size

  pub frames_more : (from line : ℕ) → from ≤ line → line < length (frames_of text)
      → frames_between from (line + 1) text ≡ frames_between from line text ++ (frame_at text line ∷ [])
  frames_more from line later less =
      let frames = frames_of text in
      let none : Frame = record { cases = 0; trace = [] } in
      let size : line + 1 - from ≡ suc (line - from) = omega arith in
      let place : from + (line - from) ≡ line = omega arith in
      let inside : line - from < length (drop from frames) = omega (arith, length-drop from frames) in
      rw (size, take-suc (drop from frames) (line - from) none inside, get_or-drop from frames (line - from) none, place)

  pub frames_all : frames_between 0 (length (frames_of text)) text ≡ frames_of text
  frames_all = rw (sub-zero (length (frames_of text))) (take-length (frames_of text))
