-- A text is a log in one way: what says that a list of frames makes it up has at most one proof. So
-- a value may keep that fact. What stands between the start and the end of a trace is all that such
-- a proof chooses, and the trace determines it.
-- Assumes nothing.
use Rattle.std.specs.Prelude.{ℕ, ◌≤◌}
use mathlib.Core.Path.{◌≡◌, sym, ap, ◌∙◌}
use mathlib.Core.HLevel.{Σ_prop_path}
use mathlib.Core.List.{List, [], ◌∷◌, ◌++◌, append_cancel_right, tail-eq_of_cons-eq}
use denote.Struct.Props.{props}
use Rattle.foundation.specs.Lists.{Each}
use Rattle.foundation.proofs.laws.Each.{each_prop}
use Rattle.event_log_spec.specs.Frames.{Behaviour, Frame, FrameUnder, WrittenLog}

-- what stands between, with the rest of the proof
abbrev Between : List ℕ → List ℕ → Type 0
Between trace between = (trace ≡ 0 ∷ (between ++ (1 ∷ []))) × Each (λ (a : ℕ). 2 ≤ a) between

abbrev behaviour_of : (trace : List ℕ) → (between : List ℕ) × Between trace between → Behaviour trace
behaviour_of trace b = record { between = b.0; ends = b.1.0; neither = b.1.1 }

pub behaviour_prop : (trace : List ℕ) → IsProp (Behaviour trace)
behaviour_prop trace b c =
    let same = append_cancel_right b.between c.between (1 ∷ []) (tail-eq_of_cons-eq (sym b.ends ∙ c.ends)) in
    ap
    (behaviour_of trace)
    (Σ_prop_path
    {B = Between trace}
    (λ (between : List ℕ). Prim.hlevel (each_prop, props))
    {u = (b.between, (b.ends, b.neither))}
    {v = (c.between, (c.ends, c.neither))}
    same)

pub frame_prop : (A : ℕ) (f : Frame) → IsProp (FrameUnder A f)
frame_prop A f = Prim.hlevel (each_prop, behaviour_prop, props)

pub log_prop : (A : ℕ) (frames : List Frame) (text : List ℕ) → IsProp (WrittenLog A frames text)
log_prop A frames text = Prim.hlevel (each_prop, frame_prop, props)
