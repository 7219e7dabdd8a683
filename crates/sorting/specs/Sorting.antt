-- Sorting by a test of which of two elements comes before the other: each element is put in front
-- of the first one that it comes before or that ties with it.
-- Assumes nothing.
use Rattle.std.specs.Prelude.{ℕ, Bool, cond, List, [], ◌∷◌, ltb}

module _ {A : Type 0} (before : A → A → Bool) where
  -- one element more in a sorted list
  abbrev pub inserted : A → List A → List A
  inserted x [] = x ∷ []
  inserted x (y ∷ ys) = cond (before y x) (y ∷ inserted x ys) (x ∷ y ∷ ys)

  abbrev pub sorted_by : List A → List A
  sorted_by [] = []
  sorted_by (x ∷ xs) = inserted x (sorted_by xs)

-- numbers, ascending
abbrev pub sorted : List ℕ → List ℕ
sorted = sorted_by ltb
