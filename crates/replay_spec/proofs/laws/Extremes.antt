-- The least balance of a trace is the balance at one of its events and at most the balance at each.
-- It lies from -254 to 0, and the last balance from -254 to 254 (document 01, "Tokens in one
-- trace"): a count is at most the number of events, which bounds every balance, and no event comes
-- before event 0, so the balance there is not above 0.
-- Assumes nothing.
use Prim.Native.Nat.{ℕ, suc, ◌≤◌, ◌<◌}
use native.Mathlib.Omega.{arith}
use mathlib.Core.Path.{◌≡◌, refl, sym, ◌∙◌}
use mathlib.Core.Bool.{Bool, true, false, cond, true≢false}
use mathlib.Core.List.{List, [], ◌∷◌, map}
use lib.IntN.{ℤ, pos, negsuc}
use lib.Signed.{lt_z, le_z}
use lib.ListN.{length, take, length-take}
use Rattle.foundation.specs.Lists.{Each, each_nil, each_cons, up_to}
use Rattle.foundation.proofs.laws.Lists.{each_head, each_tail}
use Rattle.foundation.proofs.laws.Booleans.{by_test, cond_either}
use Rattle.foundation.proofs.laws.Each.{each_imply, each_up_to, up_to_each, length_up_to}
use Rattle.foundation.proofs.laws.Sums.{sum_le_length}
use Rattle.foundation.proofs.laws.Integers.{le_z_refl, le_z_trans, le_z_total, le_z_lt_z_trans, difference_le}
use Rattle.places.specs.declared.Place.{Place}
use Rattle.places.specs.Sets.{has}
use Rattle.event_log_spec.specs.Frames.{most_events}
use Rattle.replay_spec.specs.Balance.{count, balance_at, smaller, least_of, least_balance, last_balance}

-- the smaller of two numbers is at most each
smaller_left : (a b : ℤ) → le_z (smaller a b) a ≡ true
smaller_left a b = go (le_z a b) refl
  where
    go : (t : Bool) → le_z a b ≡ t → le_z (cond t a b) a ≡ true
    go true e = le_z_refl a
    go false e = le_z_total a b e

smaller_right : (a b : ℤ) → le_z (smaller a b) b ≡ true
smaller_right a b = go (le_z a b) refl
  where
    go : (t : Bool) → le_z a b ≡ t → le_z (cond t a b) b ≡ true
    go true e = e
    go false e = le_z_refl b

module _ {A : Type 0} (f : A → ℤ) where
  -- what holds of each number of a list holds of the least of them
  pub least_among : (P : ℤ → Type 0) (xs : List A) → 1 ≤ length xs → Each (λ (x : A). P (f x)) xs → P (least_of (map f xs))
  unfolding least_of
  least_among P [] some e = absurd (omega arith)
  least_among P (x ∷ []) some e = each_head e
  least_among P (x ∷ (y ∷ ys)) some e =
      cond_either P (le_z (f x) (least_of (map f (y ∷ ys)))) (each_head e) (least_among P (y ∷ ys) (omega arith) (each_tail e))

  -- the least of a list's numbers is at most each
  pub least_bounds : (xs : List A) → Each (λ (x : A). le_z (least_of (map f xs)) (f x) ≡ true) xs
  unfolding least_of
  least_bounds [] = each_nil
  least_bounds (x ∷ []) = each_cons (le_z_refl (f x)) each_nil
  least_bounds (x ∷ (y ∷ ys)) =
      each_cons
      (smaller_left (f x) least)
      (each_imply (λ z. le_z_trans (smaller (f x) least) least (f z) (smaller_right (f x) least)) (least_bounds (y ∷ ys)))
    where
      least : ℤ
      least = least_of (map f (y ∷ ys))

  -- where the least is not below 0, none is
  pub none_below : (xs : List A) → lt_z (least_of (map f xs)) (pos 0) ≡ false → Each (λ (x : A). lt_z (f x) (pos 0) ≡ false) xs
  none_below xs none =
      each_imply
      (λ x least. by_test
      (lt_z (f x) (pos 0))
      (λ t. absurd (true≢false (sym (le_z_lt_z_trans (least_of (map f xs)) (f x) (pos 0) least t) ∙ none)))
      (λ g. g))
      (least_bounds xs)

-- a count is at most the number of events
pub count_le_length : (s : ℕ) (events : List ℕ) → count s events ≤ length events
unfolding count
count_le_length s events = sum_le_length (has s) (λ a. omega arith) events

-- the ranges of the two balances that replaying answers
pub record Ranges (least last : ℤ) : Type 0 where
  pub least_from : le_z (negsuc 253) least ≡ true
  pub least_to : le_z least (pos 0) ≡ true
  pub last_from : le_z (negsuc 253) last ≡ true
  pub last_to : le_z last (pos 254) ≡ true

module _ (p : Place) where
  -- the least balance is the balance at some event
  pub least_reached : (trace : List ℕ) → 1 ≤ length trace
      → (k : ℕ) × (k < length trace) × (balance_at p trace k ≡ least_balance p trace)
  unfolding least_balance
  least_reached trace some =
      least_among
      (balance_at p trace)
      (λ (z : ℤ). (k : ℕ) × (k < length trace) × (balance_at p trace k ≡ z))
      (up_to (length trace))
      (omega (arith, length_up_to (length trace)))
      (each_up_to (length trace) λ k l. (k, l, refl))

  -- the least balance is at most the balance at each event
  pub least_at_most : (trace : List ℕ) (k : ℕ) → k < length trace → le_z (least_balance p trace) (balance_at p trace k) ≡ true
  unfolding least_balance
  least_at_most trace = up_to_each (length trace) (least_bounds (balance_at p trace) (up_to (length trace)))

  -- the balance at event 0 is not above 0
  first_balance : (trace : List ℕ) → le_z (balance_at p trace 0) (pos 0) ≡ true
  unfolding balance_at count
  first_balance trace = difference_le 0 (count p.outputs (take 1 trace)) 0 0 (omega arith)

  -- the least balance of any trace is not above 0
  pub least_not_positive : (trace : List ℕ) → le_z (least_balance p trace) (pos 0) ≡ true
  unfolding least_balance least_of
  least_not_positive [] = refl
  least_not_positive (a ∷ events) =
      le_z_trans
      (least_balance p (a ∷ events))
      (balance_at p (a ∷ events) 0)
      (pos 0)
      (least_at_most (a ∷ events) 0 (omega arith))
      (first_balance (a ∷ events))

  -- a balance takes away at most one for each event
  balance_from : (trace : List ℕ) (k : ℕ) → length trace ≤ most_events → le_z (negsuc 253) (balance_at p trace k) ≡ true
  unfolding balance_at
  balance_from trace k short =
      difference_le
      0
      254
      (count p.inputs (take k trace))
      (count p.outputs (take (suc k) trace))
      (omega (arith, count_le_length p.outputs (take (suc k) trace), length-take (suc k) trace))

  least_from_254 : (trace : List ℕ) → length trace ≤ most_events → le_z (negsuc 253) (least_balance p trace) ≡ true
  unfolding least_balance least_of
  least_from_254 [] short = refl
  least_from_254 (a ∷ events) short =
      let (k, l, e) = least_reached (a ∷ events) (omega arith) in
      rw e at (balance_from (a ∷ events) k short)

  -- a trace that a log may have
  pub ranges : (trace : List ℕ) → length trace ≤ most_events → Ranges (least_balance p trace) (last_balance p trace)
  unfolding last_balance
  ranges trace short =
      record {
        least_from = least_from_254 trace short;
        least_to = least_not_positive trace;
        last_from = difference_le 0 254 fed taken (omega (arith, count_le_length p.outputs trace));
        last_to = difference_le fed taken 254 0 (omega (arith, count_le_length p.inputs trace));
      }
    where
      fed : ℕ
      fed = count p.inputs trace

      taken : ℕ
      taken = count p.outputs trace
