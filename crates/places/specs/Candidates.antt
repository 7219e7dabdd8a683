-- The sets in the stated order, the candidates, and a candidate's descendants. Document 01,
-- "Candidates and their order".
-- Assumes nothing.
use Rattle.std.specs.Prelude.{ℕ, zero, suc, ◌+◌, ◌*◌, Bool, not, ◌&&◌, eqb, ltb, leb, length}
use mathlib.Core.List.{List, [], ◌∷◌, ◌++◌, map, flat_map}
use Rattle.std.specs.List.{filter, list_all}
use Rattle.limits.specs.declared.Settings.{Settings}
use Rattle.places.specs.declared.Place.{Place}
use Rattle.places.specs.Sets.{member, codes, size, within}
use Rattle.places.specs.Places.{place, below, place_under}

-- a set that a candidate may have: not empty, of codes below n, and of at most m of them
unfoldable pub candidate_set : ℕ → ℕ → ℕ → Bool
candidate_set n m s = not (eqb s 0) && below n s && leb (size s) m

-- a candidate: a through place of codes below A, with no more inputs and outputs than the settings
-- allow
unfoldable pub candidate : Settings → Place → Bool
candidate s p =
    place_under s.activities p && leb (size p.inputs) s.inputs && leb (size p.outputs) s.outputs

-- a set whose codes each are one more
abbrev pub raised : ℕ → ℕ
raised s = 2 * s

-- the same, with code 0 besides
abbrev pub raised_with_zero : ℕ → ℕ
raised_with_zero s = 2 * s + 1

-- the non-empty sets of at most m codes below n, in the stated order: the set of code 0 alone;
-- those that have code 0 and more; those without it
unfoldable pub sets : ℕ → ℕ → List ℕ
sets zero m = []
sets (suc n) zero = []
sets (suc n) (suc m) = 1 ∷ (map raised_with_zero (sets n m) ++ map raised (sets n (suc m)))

-- all candidates in their order, by outputs first, then by inputs
unfoldable pub candidates : Settings → List Place
candidates s =
    flat_map
    (λ (o : ℕ). map (λ (i : ℕ). place i o) (sets s.activities s.inputs))
    (sets s.activities s.outputs)

-- the codes of j that are not in i
unfoldable pub added : ℕ → ℕ → List ℕ
added i j = filter (λ (a : ℕ). not (member i a)) (codes j)

-- j has all codes of i and at least one more, and each of the new ones is above all of i
unfoldable pub extends : ℕ → ℕ → Bool
extends i j =
    within i j
    && ltb 0 (length (added i j))
    && list_all (λ (a : ℕ). list_all (λ (b : ℕ). ltb b a) (codes i)) (added i j)

-- the candidate d is a descendant of c, one of its offspring in document 01
unfoldable pub descends : Place → Place → Bool
descends c d = eqb c.outputs d.outputs && extends c.inputs d.inputs
