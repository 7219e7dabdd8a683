-- How long a run of words is: up to the first word that does not follow the one before.
-- Assumes nothing.
use Rattle.std.proofs.Common.{ℕ, zero, suc, ◌-◌, ◌≤◌, ◌<◌, ◌≡◌, Bool, true, false, List, [], ◌∷◌, length, get_or, refl, ap, subst, arith}
use Rattle.std.proofs.Math.Numerals.{add-one}
use Rattle.std.specs.List.{IsChunkByPrefix}
use Rattle.case_notation.specs.Runs.{further, run_length}

module _ {A : Type 0} (follows : A → A → Bool) where
  -- so many words each follow the one before, and the next does not
  further_is : (n : ℕ) (word : A) (words : List A) → n ≤ length words
      → ((k : ℕ) (d : A) → k < n → follows (get_or (word ∷ words) k d) (get_or words k d) ≡ true)
      → (n < length words → (d : A) → follows (get_or (word ∷ words) n d) (get_or words n d) ≡ false) → n ≡ further follows word words
  unfolding further
  further_is zero word [] within go stop = refl
  further_is zero word (x ∷ xs) within go stop = rw (stop (omega arith) x)
  further_is (suc n) word [] within go stop = absurd (omega arith)
  further_is (suc n) word (x ∷ xs) within go stop =
      rw (go 0 x (omega arith))
      (ap suc (further_is n x xs (omega arith) (λ k d h. go (suc k) d (omega arith)) (λ h d. stop (omega arith) d)))

  pub run_is : (n : ℕ) (words : List A) → 0 < n → n ≤ length words → IsChunkByPrefix follows words n → n ≡ run_length follows words
  unfolding run_length
  run_is zero words some within p = absurd (omega arith)
  run_is (suc n) [] some within p = absurd (omega arith)
  run_is (suc n) (x ∷ xs) some within p =
      let one_less : suc n - 1 ≡ n = omega arith in
      ap suc
      (further_is n x xs (omega arith)
      (λ k d h. subst (λ (m : ℕ). follows (get_or (x ∷ xs) k d) (get_or (x ∷ xs) m d) ≡ true) (add-one k) (p.0 k d (omega arith)))
      (λ h d. subst (λ (m : ℕ). follows (get_or (x ∷ xs) m d) (get_or xs n d) ≡ false) one_less (p.1 (omega arith) d)))

  pub no_run : (words : List A) → length words ≡ 0 → 0 ≡ run_length follows words
  unfolding run_length
  no_run [] none = refl
  no_run (x ∷ xs) none = absurd (omega arith)
