-- `token_replay::missing::first_missing` meets its contract: the tokens after one event more have a
-- least balance below 0, and then the event is found, or none has been missing so far, and the
-- search goes on. Where no two digits are left there is none.
-- Assumes nothing.
use Rattle.std.proofs.Common.{ℕ, List, [], ◌∷◌, ◌++◌, suc, length, get_or, ◌≡◌, sym, ap, ◌∙◌, ◌+◌, ◌<◌, pos, arith, rules}
use native.Mathlib.Numerals.{add-one}
use mathlib.Core.Bool.{true, false, cond}
use lib.ListN.{length-append}
use lib.Signed.{lt_z}
use Rattle.places.specs.declared.Place.{Place}
use Rattle.replay_spec.specs.declared.FirstMissing.TheVariants.{NoEvent, AtEvent}
use Rattle.replay_spec.specs.Missing.{first_missing}
use Rattle.token_replay.specs.declared.DigitSets.{DigitSets}
use Rattle.token_replay.specs.declared.Tokens.{Tokens}
use Rattle.event_log_spec.specs.Lines.{codes_in}
use Rattle.token_replay.specs.Tokens.{after_digit, digit_sets}
use Rattle.token_replay.proofs.laws.ByDigit.{event_by_digit}
use Rattle.token_replay.proofs.laws.DigitPairs.{pair_first}
use Rattle.token_replay.proofs.laws.EventBits.{below_zero, mag_event}
use Rattle.token_replay.proofs.laws.UntilMissing.{missing_from, until_missing}
use Rattle.token_replay.proofs.missing.first_missing.Invariants.{Searched}
use Rattle.token_replay.proofs.missing.first_missing.Goals as goal

module _ (digits : List ℕ) (sets : DigitSets) {tokens : Tokens} {event : ℕ} where
  module _ (pair left : List ℕ) {next : Tokens} (two : length pair ≡ 2) (e : next ≡ after_digit sets tokens (get_or pair 1 0))
      (r : Searched digits (pair ++ left) sets tokens event) where
    -- the event of the pair, for a place with these sets
    one_event : (place : Place) → sets ≡ digit_sets place
        → cond (lt_z next.least (pos 0)) (AtEvent event) (missing_from place next (suc event) (codes_in left))
        ≡ first_missing place (codes_in digits)
    one_event place same =
        let first = pair_first pair left two r.known in
        let by_code = e ∙ ap (λ (s : DigitSets). after_digit s tokens (get_or pair 1 0)) same ∙ event_by_digit place tokens (get_or pair 1 0) first.digit in
        rw by_code (rw first.codes at (r.alike place same)) ∙ until_missing place (codes_in digits)

    found_here : lt_z next.least (pos 0) ≡ true → (place : Place) → sets ≡ digit_sets place
        → AtEvent event ≡ first_missing place (codes_in digits)
    found_here t place same = rw t at (one_event place same)

    one_more : lt_z next.least (pos 0) ≡ false → Searched digits left sets next (event + 1)
    one_more f =
        let first = pair_first pair left two r.known in
        record {
          few = rw e (omega (arith, mag_event sets tokens (get_or pair 1 0), r.few, length-append pair left));
          counted = omega (arith, r.counted, length-append pair left);
          known = first.known;
          alike = λ place same. rw (add-one event) (rw f at (one_event place same) ∙ sym (until_missing place (codes_in digits)));
        }

  none_left : (left : List ℕ) → length left < 2 → Searched digits left sets tokens event → (place : Place) → sets ≡ digit_sets place
      → NoEvent ≡ first_missing place (codes_in digits)
  unfolding codes_in
  none_left [] few r place same = r.alike place same ∙ until_missing place (codes_in digits)
  none_left (d ∷ []) few r place same = r.alike place same ∙ until_missing place (codes_in digits)
  none_left (d ∷ (e ∷ left)) few r place same = absurd (omega arith)

pub returns-then-tokens-lt0 : goal.returns-then-tokens-lt0
returns-then-tokens-lt0 c =
    let steps = c.in-Some.ensures.steps in
    let before = c.loop-pair.invariant in
    found_here _ _ _ _ (steps.1.1 ∙ before.0) c.after-tokens.ensures (rw steps.1.0 at before.1)
    (sym (below_zero c.after-tokens.result.least (search rules)) ∙ c.if-tokens-lt0.true)

pub loop-pair-preserved : goal.loop-pair-preserved
loop-pair-preserved c =
    let steps = c.in-Some.ensures.steps in
    let before = c.loop-pair.invariant in (
      steps.0 ∙ before.0,
      one_more _ _ _ _ (steps.1.1 ∙ before.0) c.after-tokens.ensures (rw steps.1.0 at before.1)
          (sym (below_zero c.after-tokens.result.least (search rules)) ∙ c.if-tokens-lt0.false),
    )

pub returns : goal.returns
returns c =
    let before = c.loop-pair.invariant in
    none_left _ _ _ (omega (arith, c.in-None.ensures.steps, before.0)) before.1
