-- Where a search over sets goes on: the set after a given one in a list of sets, and the first set
-- after it that does not extend it. Document 01, "Candidates and their order" and the last
-- paragraph of "The walk".
-- Assumes nothing.
use Rattle.std.specs.Prelude.{ℕ, cond, not, eqb, drop}
use mathlib.Core.List.{List, [], ◌∷◌, ◌++◌, map, flat_map}
use Rattle.std.specs.List.{filter}
use Rattle.limits.specs.declared.Settings.{Settings}
use Rattle.places.specs.declared.Place.{Place}
use Rattle.places.specs.Places.{place}
use Rattle.places.specs.Candidates.{sets, extends}

-- the list from the set s on, nothing where s is not in it
unfoldable pub from : ℕ → List ℕ → List ℕ
from s [] = []
from s (t ∷ ts) = cond (eqb s t) (t ∷ ts) (from s ts)

-- the first of some sets, 0 of none: the empty set is no candidate's
unfoldable pub first_set : List ℕ → ℕ
first_set [] = 0
first_set (s ∷ ss) = s

-- the set after s
unfoldable pub set_after : ℕ → List ℕ → ℕ
set_after s list = first_set (drop 1 (from s list))

-- the first set after s that is not s with codes added above its own
unfoldable pub set_past : ℕ → List ℕ → ℕ
set_past s list = first_set (filter (λ (t : ℕ). not (extends s t)) (drop 1 (from s list)))

-- the places of some input sets with the outputs o
abbrev pub with_outputs : List ℕ → ℕ → List Place
with_outputs inputs o = map (λ (i : ℕ). place i o) inputs

-- the places of the first output set with some input sets, then those of the further output sets
-- with all
unfoldable pub rows : List ℕ → List ℕ → List ℕ → List Place
rows firsts inputs [] = []
rows firsts inputs (o ∷ os) = with_outputs firsts o ++ flat_map (with_outputs inputs) os

-- the candidates from c on: with its outputs those from its inputs on, then those with the output
-- sets after
unfoldable pub candidates_from : Settings → Place → List Place
candidates_from s c =
    let inputs = sets s.activities s.inputs in
    rows (from c.inputs inputs) inputs (from c.outputs (sets s.activities s.outputs))
