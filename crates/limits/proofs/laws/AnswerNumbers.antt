-- An answer that is a refusal or a result, by whether there is a refusal: its number and its value
-- are those of the refusal, it tells which of the two it is, and a refusal leaves what was lent as
-- it was.
-- Assumes nothing.
use Rattle.std.specs.Prelude.{Option, None, Some, Result, Ok, Err}
use Prim.Native.Nat.{ℕ}
use mathlib.Core.Path.{◌≡◌, refl}
use mathlib.Core.Logic.{◌↔◌}
use mathlib.Core.List.{List}
use Rattle.foundation.proofs.laws.Booleans.{impossible}
use Rattle.limits.specs.declared.Refusal.{Refusal}
use Rattle.limits.specs.Refusals.{number, value, number_given, value_given, Numbered, answer, answered, answer_number, answer_value}

-- of any answer that keeps its refusal's own number and value, where a result has 0 and 0
module _ {X : Type 0} (refused : Refusal → X) (number_of value_of : X → ℕ) (number_kept : (r : Refusal) → number_of (refused r) ≡ number r)
    (value_kept : (r : Refusal) → value_of (refused r) ≡ value r) where
  pub either_numbered : (o : Option Refusal) (result : X) → number_of result ≡ 0 → value_of result ≡ 0
      → Numbered o (number_of (answer refused o result)) (value_of (answer refused o result))
  unfolding number_given value_given
  either_numbered None result no_number no_value = record { number_is = no_number; value_is = no_value }
  either_numbered (Some r) result no_number no_value = record { number_is = number_kept r; value_is = value_kept r }

pub answer_numbered : {X : Type 0} (o : Option Refusal) (result : X)
    → Numbered o (answer_number (answered o result)) (answer_value (answered o result))
unfolding number_given value_given answer_number answer_value
answer_numbered None result = record { number_is = refl; value_is = refl }
answer_numbered (Some r) result = record { number_is = refl; value_is = refl }

pub numbered : {X : Type 0} (o : Option Refusal) (result : X) {r : Result X Refusal} → r ≡ answered o result
    → Numbered o (answer_number r) (answer_value r)
numbered o result e = rw e (answer_numbered o result)

-- a call answers with a refusal exactly when it was given it, and with a result only where it was
-- given none
module _ {X : Type 0} where
  pub answer_refused : (o : Option Refusal) (result : X) (r : Refusal) → (answered o result ≡ Err r) ↔ (o ≡ Some r)
  answer_refused None result r = (λ e. impossible (cc), λ e. impossible (cc))
  answer_refused (Some s) result r = (λ e. cc, λ e. cc)

  pub answer_accepted : (o : Option Refusal) (result other : X) → answered o result ≡ Ok other → (o ≡ None) × (result ≡ other)
  answer_accepted None result other e = (refl, cc)
  answer_accepted (Some s) result other e = impossible (cc)

-- what a call answers by its refusal, if it has one, and leaves in a buffer that held something
pub record AnsweredAs {X : Type 0} (o : Option Refusal) (result : X) (made before : List ℕ) (given : Result X Refusal) (after : List ℕ) : Type 0 where
  pub answers : given ≡ answered o result
  pub leaves : after ≡ answer (λ (r : Refusal). before) o made
  pub numbered : Numbered o (answer_number given) (answer_value given)

module _ {X : Type 0} {o : Option Refusal} (result : X) (made before : List ℕ) where
  pub refused_as : {r : Refusal} → o ≡ Some r → AnsweredAs o result made before (Err r) before
  refused_as e = rw e (record { answers = refl; leaves = refl; numbered = answer_numbered (Some _) result })

  pub answered_as : o ≡ None → AnsweredAs o result made before (Ok result) made
  answered_as e = rw e (record { answers = refl; leaves = refl; numbered = answer_numbered None result })
