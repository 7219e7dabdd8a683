-- Words for lists, in their usual meaning, beside the kit's length, take, drop, get_or, map,
-- flat_map, filter, fold, list_all and list_any.
-- Assumes nothing.
use Rattle.std.specs.Prelude.{ℕ, zero, suc, ◌+◌, Bool, true, ◌&&◌, List, [], ◌∷◌, ◌++◌, map}
use Rattle.std.specs.List.{list_all}

-- P holds of each element
pub data Each {A : Type 0} (P : A → Type 0) : List A → Type 0 where
  each_nil : Each P []
  each_cons : {x : A} {xs : List A} → P x → Each P xs → Each P (x ∷ xs)

-- every two elements are related, the earlier to the later
pub data Ordered {A : Type 0} (R : A → A → Type 0) : List A → Type 0 where
  ordered_nil : Ordered R []
  ordered_cons : {x : A} {xs : List A} → Each (R x) xs → Ordered R xs → Ordered R (x ∷ xs)

module _ {A : Type 0} where
  -- the same by a test
  abbrev pub pairwise : (A → A → Bool) → List A → Bool
  pairwise r [] = true
  pairwise r (x ∷ xs) = list_all (r x) xs && pairwise r xs

  -- every choice of elements by their places in the list, each in the list's order
  abbrev pub sublists : List A → List (List A)
  sublists [] = [] ∷ []
  sublists (x ∷ xs) = map (λ (s : List A). x ∷ s) (sublists xs) ++ sublists xs

-- all numbers added up
abbrev pub sum : List ℕ → ℕ
sum [] = 0
sum (n ∷ ns) = n + sum ns

-- 0, 1, .. up to n - 1
abbrev pub up_to : ℕ → List ℕ
up_to zero = []
up_to (suc n) = up_to n ++ (n ∷ [])
