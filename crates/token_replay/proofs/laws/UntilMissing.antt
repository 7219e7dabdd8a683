-- Replaying a trace until a token is missing gives the first event at which one is. While none has
-- been missing, the least balance so far is not below 0, so none of the balances at the events
-- before is; when one more event puts it below 0, the balance at that event is.
-- Assumes nothing.
use Prim.Native.Nat.{ℕ, zero, suc, ◌+◌, ◌<◌}
use native.Mathlib.Omega.{arith}
use mathlib.Core.Path.{◌≡◌, refl, sym, ap, ◌∙◌}
use mathlib.Core.Bool.{true, false, cond, true≢false}
use mathlib.Core.List.{List, [], ◌∷◌}
use lib.IntN.{ℤ, pos}
use lib.Signed.{lt_z, le_z}
use lib.ListN.{length, drop}
use lib.Seq.{drop-cons, drop-length}
use Rattle.foundation.specs.Lists.{up_to}
use Rattle.foundation.proofs.laws.Booleans.{by_test}
use Rattle.foundation.proofs.laws.Each.{up_to_each}
use Rattle.places.specs.declared.Place.{Place}
use Rattle.replay_spec.specs.declared.FirstMissing.{FirstMissing}
use Rattle.replay_spec.specs.declared.FirstMissing.TheVariants.{NoEvent, AtEvent}
use Rattle.replay_spec.specs.Balance.{count, balance_at, smaller, least_of, least_balance, underfeeds}
use Rattle.replay_spec.specs.Missing.{first_missing}
use Rattle.replay_spec.proofs.laws.Extremes.{none_below}
use Rattle.replay_spec.proofs.laws.FirstMissing.{nowhere, somewhere}
use Rattle.token_replay.specs.declared.Tokens.{Tokens}
use Rattle.token_replay.specs.Tokens.{after_event}
use Rattle.token_replay.proofs.laws.EventByEvent.{no_tokens, after, least_next, next}

-- from the tokens after some events on: the first event behind them at which one is missing
abbrev pub missing_from : Place → Tokens → ℕ → List ℕ → FirstMissing
missing_from p t event [] = NoEvent
missing_from p t event (code ∷ codes) =
    let one_more = after_event p t code in
    cond (lt_z one_more.least (pos 0)) (AtEvent event) (missing_from p one_more (suc event) codes)

module _ (p : Place) (trace : List ℕ) where
  -- none has been missing before event k
  abbrev none_before : ℕ → Type 0
  none_before k = lt_z (after p trace k).least (pos 0) ≡ false

  not_below : (k : ℕ) → none_before k → (j : ℕ) → j < k → lt_z (balance_at p trace j) (pos 0) ≡ false
  not_below k none = up_to_each k (none_below (balance_at p trace) (up_to k) none)

  -- the smaller of two numbers is below 0, and the first is not
  second_below : (a b : ℤ) → lt_z a (pos 0) ≡ false → lt_z (smaller a b) (pos 0) ≡ true → lt_z b (pos 0) ≡ true
  second_below a b none t = by_test (le_z a b) (λ u. absurd (true≢false (sym (rw u at t) ∙ none))) (λ g. rw g at t)

  here : (k : ℕ) → k < length trace → none_before k → lt_z (after p trace (suc k)).least (pos 0) ≡ true → first_missing p trace ≡ AtEvent k
  here k less none below =
      (somewhere p trace k).1
      record {
        in_trace = less;
        below = second_below (after p trace k).least (balance_at p trace k) none (rw (least_next p trace k) below);
        not_before = not_below k none;
      }

  -- no event is left
  at_end : none_before (length trace) → first_missing p trace ≡ NoEvent
  unfolding underfeeds least_balance
  at_end none = (nowhere p trace).1 none

  from_here : (left k : ℕ) → left + k ≡ length trace → none_before k → missing_from p (after p trace k) k (drop k trace) ≡ first_missing p trace
  from_here zero k e none =
      let last : k ≡ length trace = omega (arith, e) in
      rw last (ap (missing_from p (after p trace (length trace)) (length trace)) (drop-length trace) ∙ sym (at_end (rw last at none)))
  from_here (suc left) k e none =
      let less : k < length trace = omega (arith, e) in
      rw (drop-cons trace k 0 less, next p trace k less)
      (by_test
      (lt_z (after p trace (suc k)).least (pos 0))
      (λ t. rw t (sym (here k less none t)))
      (λ f. rw f (from_here left (suc k) (omega (arith, e)) f)))

  -- from the first event on
  pub until_missing : missing_from p no_tokens 0 trace ≡ first_missing p trace
  unfolding count least_of
  until_missing = from_here (length trace) 0 (omega arith) refl
