-- Runs of words.
-- Assumes nothing.
use Rattle.std.specs.Prelude.{ℕ, suc, Bool, cond, List, [], ◌∷◌}

module _ {A : Type 0} (follows : A → A → Bool) where
  -- how many words after one each go with the word before
  unfoldable pub further : A → List A → ℕ
  further word [] = 0
  further word (x ∷ xs) = cond (follows word x) (suc (further x xs)) 0

  -- how many from the first on
  unfoldable pub run_length : List A → ℕ
  run_length [] = 0
  run_length (x ∷ xs) = suc (further x xs)
