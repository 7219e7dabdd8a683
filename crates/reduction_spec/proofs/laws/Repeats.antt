-- Repeated words fare alike: whether a word is dropped depends on the word and on the list, and not
-- on where the word stands. So of a word either all copies are kept or none.
-- Assumes nothing.
use Prim.Native.Nat.{ℕ}
use mathlib.Core.Path.{◌≡◌, refl, sym, ap, ◌∙◌}
use mathlib.Core.Bool.{Bool, true, false, cond, not}
use mathlib.Core.List.{List, [], ◌∷◌}
use borrow.Author.Tests.{eqb-true}
use lib.Dec.{eqb}
use lib.ListN.{length}
use Rattle.std.specs.List.{filter}
use Rattle.foundation.proofs.laws.Booleans.{by_test, cond_either}
use Rattle.reduction_spec.specs.Reduction.{redundant, reduced_words}

-- how often a word stands in a list
abbrev pub copies : ℕ → List ℕ → ℕ
copies w words = length (filter (eqb w) words)

-- of what passes a test, the copies of a word are all of its copies or none
module _ (test : ℕ → Bool) (w : ℕ) where
  all_or_none : (xs : List ℕ) → filter (eqb w) (filter test xs) ≡ cond (test w) (filter (eqb w) xs) []
  all_or_none [] = cond_either (λ (l : List ℕ). [] ≡ l) (test w) refl refl
  all_or_none (x ∷ xs) = by_test (eqb w x) (λ e. copy e (all_or_none xs)) (λ e. other e (all_or_none xs))
    where
      -- a copy goes the way that all go
      copy : eqb w x ≡ true → filter (eqb w) (filter test xs) ≡ cond (test w) (filter (eqb w) xs) []
          → filter (eqb w) (filter test (x ∷ xs)) ≡ cond (test w) (filter (eqb w) (x ∷ xs)) []
      copy e rest =
          by_test
          (test w)
          (λ t. rw (sym (ap test (eqb-true w x e)) ∙ t, e, t) (ap (◌∷◌ x) (rest ∙ rw t refl)))
          (λ t. rw (sym (ap test (eqb-true w x e)) ∙ t, e, t) (rest ∙ rw t refl))

      -- another word counts nowhere
      other : eqb w x ≡ false → filter (eqb w) (filter test xs) ≡ cond (test w) (filter (eqb w) xs) []
          → filter (eqb w) (filter test (x ∷ xs)) ≡ cond (test w) (filter (eqb w) (x ∷ xs)) []
      other e rest = by_test (test x) (λ t. rw (t, e) rest) (λ t. rw (t, e) rest)

pub fare_alike : (w : ℕ) (words : List ℕ) → copies w (reduced_words words) ≡ cond (redundant words w) 0 (copies w words)
unfolding reduced_words
fare_alike w words =
    ap length (all_or_none (λ (v : ℕ). not (redundant words v)) w words) ∙ counted (redundant words w)
  where
    counted : (b : Bool) → length (cond (not b) (filter (eqb w) words) []) ≡ cond b 0 (copies w words)
    counted true = refl
    counted false = refl
