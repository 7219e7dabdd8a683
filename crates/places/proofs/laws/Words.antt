-- The word of a place whose sets have 16 bits has 32 bits, and the place can be read back from it.
-- Assumes nothing.
use Prim.Native.Nat.{◌<◌, ◌^◌}
use native.Mathlib.Omega.{arith}
use mathlib.Core.Path.{◌≡◌, refl, ap₂}
use mathlib.Core.List.{List, ◌∷◌, map}
use Rattle.foundation.specs.Lists.{Each, each_nil, each_cons}
use Rattle.places.specs.declared.Place.{Place}
use Rattle.places.specs.Places.{place, word, place_of}

-- both sets have 16 bits
abbrev pub Storable : Place → Type 0
Storable p = (p.inputs < 65536) × (p.outputs < 65536)

pub word_small : (p : Place) → Storable p → word p < 2 ^ 32
unfolding word
word_small p small = omega (arith, small.0, small.1)

pub word_back : (p : Place) → Storable p → place_of (word p) ≡ p
unfolding word place_of
word_back p small = ap₂ place (omega (arith, small.0, small.1)) (omega (arith, small.0, small.1))

pub words_back : {ps : List Place} → Each Storable ps → map place_of (map word ps) ≡ ps
words_back each_nil = refl
words_back (each_cons {x = p} here later) = ap₂ ◌∷◌ (word_back p here) (words_back later)
