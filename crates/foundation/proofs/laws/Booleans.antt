-- Case splits on a Boolean, when two are the same, the parts of a disjunction that fails or holds,
-- what a negated test decides, and what cannot be.
-- Assumes nothing.
use Prim.Native.Nat.{ℕ}
use native.Mathlib.Omega.{arith}
use mathlib.Core.Path.{◌≡◌, refl, sym, ◌∙◌}
use mathlib.Core.Logic.{◌↔◌}
use mathlib.Core.Bool.{Bool, true, false, true≢false, false≢true, cond, not, ◌||◌}

-- what holds of both branches holds of the one taken
pub cond_either : {X : Type 0} (P : X → Type 0) (b : Bool) {x y : X} → P x → P y → P (cond b x y)
cond_either P true hx hy = hx
cond_either P false hx hy = hy

-- a proof by the two values of a test
pub by_test : {X : Type 0} (b : Bool) → (b ≡ true → X) → (b ≡ false → X) → X
by_test true hx hy = hx refl
by_test false hx hy = hy refl

-- two tests that hold in the same cases are the same
pub same_truth : {a b : Bool} → (a ≡ true → b ≡ true) → (b ≡ true → a ≡ true) → a ≡ b
same_truth {a = a} {b = b} there back = by_test a (λ e. e ∙ sym (there e)) (λ e. by_test b (λ f. back f ∙ sym f) (λ f. e ∙ sym f))

-- and so are two that fail in the same cases
pub same_false : {a b : Bool} → (a ≡ false → b ≡ false) → (b ≡ false → a ≡ false) → a ≡ b
same_false {a = a} {b = b} there back = by_test b (λ t. by_test a (λ s. s ∙ sym t) (λ f. absurd (true≢false (sym t ∙ there f)))) (λ f. back f ∙ sym f)

pub or_false_parts : (a b : Bool) → a || b ≡ false → (a ≡ false) × (b ≡ false)
or_false_parts true b e = absurd (true≢false e)
or_false_parts false b e = (refl, e)

-- what follows from either part follows from a disjunction
pub or_true_either : {X : Type 0} (a b : Bool) → (a ≡ true → X) → (b ≡ true → X) → a || b ≡ true → X
or_true_either true b hx hy e = hx refl
or_true_either false b hx hy e = hy e

-- where a test decides something, the negated test decides that it is not so
pub not_decides : {P : Type 0} (b : Bool) → (b ≡ true) ↔ P → (not b ≡ true) ↔ (P → ⊥)
not_decides true decides = (λ e. absurd (false≢true e), λ fails. absurd (fails (decides.0 refl)))
not_decides false decides = (λ e holds. false≢true (decides.1 holds), λ fails. refl)

-- nothing is so that 0 is 1: what `cc` finds where two constructors would be equal
pub impossible : {X : Type 0} → ◌≡◌ {A = ℕ} 0 1 → X
impossible e = absurd (omega arith)
