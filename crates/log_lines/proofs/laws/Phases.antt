-- A trace read event by event through its phases ends complete exactly when no endpoint of it is
-- misplaced. After the start, what is left must end in the end and have no endpoint before it, by
-- induction on what is left.
-- Assumes nothing.
use Prim.Native.Nat.{ℕ, suc, ◌-◌}
use mathlib.Core.Path.{◌≡◌, refl}
use mathlib.Core.Bool.{Bool, true, not, ◌||◌, or-true}
use mathlib.Core.List.{List, [], ◌∷◌}
use native.Mathlib.Omega.{arith}
use borrow.Author.Tests.{eqb-true, eqb-false, le-leb, lt-leb}
use lib.Dec.{eqb, leb}
use lib.ListN.{length, take, get_or}
use Rattle.std.specs.List.{list_any, fold}
use Rattle.foundation.proofs.laws.Booleans.{by_test}
use Rattle.log_lines.specs.declared.Phase.TheVariants.{Before, Inside, Misplaced}
use Rattle.event_log_spec.specs.Checking.{endpoint_misplaced}
use Rattle.log_lines.specs.Reading.{next_phase, incomplete}

-- a misplaced endpoint stays one
stays_misplaced : (events : List ℕ) → fold next_phase Misplaced events ≡ Misplaced
unfolding next_phase
stays_misplaced [] = refl
stays_misplaced (a ∷ events) = stays_misplaced events

abbrev endpoint : ℕ → Bool
endpoint a = leb a 1

-- what is left after the start: its last event is not the end, or an endpoint stands before it
abbrev bad_rest : List ℕ → Bool
bad_rest events = not (eqb (get_or events (length events - 1) 0) 1) || list_any endpoint (take (length events - 1) events)

pred_suc : (n : ℕ) → suc n - 1 ≡ n
pred_suc n = omega arith

less_two : (n : ℕ) → suc (suc n) - 2 ≡ n
less_two n = omega arith

-- an event more in front, of which the last is still the last
rest_cons : (a b : ℕ) (events : List ℕ)
    → bad_rest (a ∷ b ∷ events)
    ≡ (not (eqb (get_or (b ∷ events) (length (b ∷ events) - 1) 0) 1) || (endpoint a || list_any endpoint (take (length (b ∷ events) - 1) (b ∷ events))))
rest_cons a b events = rw (pred_suc (suc (length events)), pred_suc (length events))

-- an endpoint before the last event
rest_endpoint : (a b : ℕ) (events : List ℕ) → endpoint a ≡ true → true ≡ bad_rest (a ∷ b ∷ events)
rest_endpoint a b events e = rw (rest_cons a b events, e, or-true)

rest_phases : (events : List ℕ) → incomplete (fold next_phase Inside events) ≡ bad_rest events
unfolding next_phase
rest_phases [] = refl
rest_phases (a ∷ []) =
    by_test (eqb a 0) (λ e. rw (eqb-true a 0 e)) (λ e. rw e (by_test (eqb a 1) (λ f. rw f) (λ f. rw f)))
rest_phases (a ∷ (b ∷ events)) =
    by_test
    (eqb a 0)
    (λ e. rw (e, stays_misplaced events) (rest_endpoint a b events (le-leb a 1 (omega (arith, eqb-true a 0 e)))))
    (λ e. by_test
    (eqb a 1)
    (λ f. rw (e, f, stays_misplaced events) (rest_endpoint a b events (le-leb a 1 (omega (arith, eqb-true a 1 f)))))
    (λ f. rw (e, f, rest_phases (b ∷ events))
    (rw (rest_cons a b events, lt-leb a 1 (omega (arith, eqb-false a 0 e, eqb-false a 1 f))))))

pub phases_misplaced : (trace : List ℕ) → incomplete (fold next_phase Before trace) ≡ endpoint_misplaced trace
unfolding next_phase endpoint_misplaced
phases_misplaced [] = refl
phases_misplaced (a ∷ []) = by_test (eqb a 0) (λ e. rw (eqb-true a 0 e)) (λ e. rw e)
phases_misplaced (a ∷ (b ∷ events)) =
    by_test
    (eqb a 0)
    (λ e. rw (e, rest_phases (b ∷ events)) (rw (less_two (length events), pred_suc (suc (length events)), pred_suc (length events))))
    (λ e. rw (e, stays_misplaced (b ∷ events)))
