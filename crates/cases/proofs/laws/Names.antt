-- Two texts are the same exactly if their bytes are, so that a name is found in a list of calls by
-- comparing it with that of one after the other.
-- Assumes nothing.
use Rattle.std.proofs.Common.{ℕ, ◌≡◌, ◌∙◌, Bool, true, false, Some, List, ◌∷◌}
use Rattle.std.specs.Prelude.{find, bytes_eq}
use Rattle.std.specs.Bool.{Decides}
use Rattle.std.proofs.lemmas.Bool.Decides.{same_from_decides}
use Rattle.std.proofs.lemmas.Slice.Eq.{bytes_eq-Decides}

-- what a comparison answers
pub decided : {a : List ℕ} (b : List ℕ) {same answer : Bool} → Decides same (a ≡ b) → same ≡ answer → bytes_eq a b ≡ answer
decided {a} b told e = same_from_decides _ _ (bytes_eq-Decides a b) told ∙ e

-- a name compared with that of the first of some calls, or of whatever has names
module _ {A : Type 0} (name : A → List ℕ) (call : A) (calls : List A) {text : List ℕ} {same : Bool} (told : Decides same (name call ≡ text)) where
  pub hit : same ≡ true → Some call ≡ find (λ c. bytes_eq (name c) text) (call ∷ calls)
  hit e = rw (decided text told e)

  pub miss : same ≡ false → find (λ c. bytes_eq (name c) text) calls ≡ find (λ c. bytes_eq (name c) text) (call ∷ calls)
  miss e = rw (decided text told e)
