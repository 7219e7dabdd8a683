-- The frames of a log are those of its lines, so a sum over the frames is one over the lines.
-- Assumes nothing.
use Prim.Native.Nat.{ℕ, suc}
use mathlib.Core.Path.{◌≡◌, refl, ap, sym, ◌∙◌}
use mathlib.Core.List.{List, [], ◌∷◌, map, map-map}
use lib.ListN.{length}
use Rattle.foundation.specs.Lists.{up_to, sum}
use Rattle.foundation.proofs.laws.Lists.{up_to_raised}
use Rattle.event_log_spec.specs.Frames.{Frame, frame_in}

-- the frames are those of the lines
pub frames_by_line : (frames : List Frame) → frames ≡ map (frame_in frames) (up_to (length frames))
frames_by_line [] = refl
frames_by_line (f ∷ frames) =
    ap (◌∷◌ f) (frames_by_line frames ∙ sym (map-map (frame_in (f ∷ frames)) suc (up_to (length frames))))
    ∙ ap (map (frame_in (f ∷ frames))) (sym (up_to_raised (length frames)))

pub sum_by_line : (f : Frame → ℕ) (frames : List Frame)
    → sum (map f frames) ≡ sum (map (λ (line : ℕ). f (frame_in frames line)) (up_to (length frames)))
sum_by_line f frames =
    ap (λ (l : List Frame). sum (map f l)) (frames_by_line frames)
    ∙ ap sum (map-map f (frame_in frames) (up_to (length frames)))
