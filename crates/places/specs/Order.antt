-- The stated order of sets and of candidates, as a relation. Document 01, "Candidates and their order".
-- Assumes nothing.
use Rattle.std.specs.Prelude.{ℕ, ◌<◌, ◌≡◌, ◌⊎◌, List, [], ◌∷◌}
use Rattle.places.specs.declared.Place.{Place}
use Rattle.places.specs.Sets.{codes}

-- of two ascending lists of codes the first comes first: it ends where the other goes on, or has
-- the lower code where they first differ
pub data CodesBefore : List ℕ → List ℕ → Type 0 where
  ends : {b : ℕ} {t : List ℕ} → CodesBefore [] (b ∷ t)
  lower : {a b : ℕ} {s t : List ℕ} → a < b → CodesBefore (a ∷ s) (b ∷ t)
  same : {a : ℕ} {s t : List ℕ} → CodesBefore s t → CodesBefore (a ∷ s) (a ∷ t)

-- the order of sets is that of their codes
unfoldable pub SetBefore : ℕ → ℕ → Type 0
SetBefore s t = CodesBefore (codes s) (codes t)

-- places go by outputs first, then by inputs
unfoldable pub PlaceBefore : Place → Place → Type 0
PlaceBefore p q = SetBefore p.outputs q.outputs ⊎ ((p.outputs ≡ q.outputs) × SetBefore p.inputs q.inputs)
