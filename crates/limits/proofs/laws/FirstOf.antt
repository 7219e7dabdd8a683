-- The first check that gives a refusal: there is none exactly when no check gives one, and else it
-- is the first check's or a later one's. Each follows from the equations of `first_of` and `given`.
-- Assumes nothing.
use Rattle.std.specs.Prelude.{Option, None, Some}
use mathlib.Core.Path.{◌≡◌, refl, sym, ◌∙◌}
use mathlib.Core.Bool.{Bool, true, false}
use mathlib.Core.List.{List, [], ◌∷◌}
use Rattle.limits.specs.declared.Refusal.{Refusal}
use Rattle.limits.specs.Refusals.{given, first_of}

pub given_none : (b : Bool) (r : Refusal) → given b r ≡ None → b ≡ false
given_none true r e = cc
given_none false r e = refl

pub only_one : (o : Option Refusal) → first_of (o ∷ []) ≡ o
only_one None = refl
only_one (Some r) = refl

-- what follows it gives nothing
pub first_alone : (o : Option Refusal) → first_of (o ∷ None ∷ []) ≡ o
first_alone None = refl
first_alone (Some r) = refl

pub first_none : (o : Option Refusal) (later : List (Option Refusal)) → first_of (o ∷ later) ≡ None → (o ≡ None) × (first_of later ≡ None)
first_none None later e = (refl, e)
first_none (Some r) later e = cc

-- a proof by which of two checks gives the refusal
pub first_some : {X : Type 0} (o p : Option Refusal) (r : Refusal) → first_of (o ∷ p ∷ []) ≡ Some r
    → (o ≡ Some r → X) → (o ≡ None → p ≡ Some r → X) → X
first_some None p r e first second = second refl (sym (only_one p) ∙ e)
first_some (Some s) p r e first second = first e

-- the checks of a call on a log, and a last one
abbrev pub with_last : Option Refusal → Option Refusal → Option Refusal → Option Refusal → Option Refusal
with_last settings empty lines last = first_of (settings ∷ None ∷ None ∷ None ∷ None ∷ empty ∷ lines ∷ last ∷ [])

-- a refusal before the last check decides, and where there is none the last check does
pub before_last : (settings empty lines last : Option Refusal) (r : Refusal)
    → with_last settings empty lines None ≡ Some r → with_last settings empty lines last ≡ Some r
before_last (Some s) empty lines last r e = e
before_last None (Some s) lines last r e = e
before_last None None (Some s) last r e = e
before_last None None None last r e = cc

pub last_decides : (settings empty lines last : Option Refusal)
    → with_last settings empty lines None ≡ None → with_last settings empty lines last ≡ last
last_decides (Some s) empty lines last e = cc
last_decides None (Some s) lines last e = cc
last_decides None None (Some s) last e = cc
last_decides None None None last e = only_one last

pub last_none : (settings empty lines last : Option Refusal) → with_last settings empty lines last ≡ None
    → (with_last settings empty lines None ≡ None) × (last ≡ None)
last_none (Some s) empty lines last e = cc
last_none None (Some s) lines last e = cc
last_none None None (Some s) last e = cc
last_none None None None last e = (refl, sym (only_one last) ∙ e)
