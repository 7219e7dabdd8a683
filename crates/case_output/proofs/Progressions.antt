-- Words that each have a number follow each other as these do.
-- Assumes nothing.
use Rattle.std.proofs.Common.{ℕ, suc, ◌≡◌, Bool, cond, List, [], ◌∷◌, map, refl, ap}
use Rattle.case_notation.specs.Runs.{further, run_length}

module _ {A B : Type 0} (number : A → B) (follows : B → B → Bool) where
  further_by_number : (word : A) (words : List A)
      → further (λ before word. follows (number before) (number word)) word words ≡ further follows (number word) (map number words)
  unfolding further
  further_by_number word [] = refl
  further_by_number word (x ∷ xs) = ap (λ (n : ℕ). cond (follows (number word) (number x)) (suc n) 0) (further_by_number x xs)

  pub run_by_number : (words : List A)
      → run_length (λ before word. follows (number before) (number word)) words ≡ run_length follows (map number words)
  unfolding run_length
  run_by_number [] = refl
  run_by_number (x ∷ xs) = ap suc (further_by_number x xs)
