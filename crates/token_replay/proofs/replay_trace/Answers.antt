-- `token_replay::replay_trace` meets its contract: one event more keeps what the loop's invariant
-- says. Where no two digits are left, all events have been replayed.
-- Assumes nothing.
use Rattle.std.proofs.Common.{ℕ, List, [], ◌∷◌, ◌++◌, length, get_or, ◌≡◌, ap, ◌∙◌, ◌<◌, arith}
use lib.ListN.{length-append}
use Rattle.std.specs.List.{fold}
use Rattle.places.specs.declared.Place.{Place}
use Rattle.token_replay.specs.declared.DigitSets.{DigitSets}
use Rattle.token_replay.specs.declared.Tokens.{Tokens}
use Rattle.event_log_spec.specs.Lines.{codes_in}
use Rattle.token_replay.specs.Tokens.{after_digit, after_event, after_trace, digit_sets}
use Rattle.token_replay.proofs.laws.ByDigit.{event_by_digit}
use Rattle.token_replay.proofs.laws.DigitPairs.{pair_first}
use Rattle.token_replay.proofs.laws.EventBits.{mag_event}
use Rattle.token_replay.proofs.laws.EventByEvent.{event_by_event}
use Rattle.token_replay.proofs.replay_trace.Invariants.{Reached}
use Rattle.token_replay.proofs.replay_trace.Goals as goal

module _ (digits : List ℕ) (sets : DigitSets) {tokens : Tokens} where
  one_more : (pair left : List ℕ) {next : Tokens} → length pair ≡ 2 → next ≡ after_digit sets tokens (get_or pair 1 0)
      → Reached digits (pair ++ left) sets tokens → Reached digits left sets next
  one_more pair left two e r =
      let first = pair_first pair left two r.known in
      rw e (
      record {
        few = omega (arith, mag_event sets tokens (get_or pair 1 0), r.few, length-append pair left);
        known = first.known;
        alike = λ place same.
            ap
            (λ (t : Tokens). fold (after_event place) t (codes_in left))
            (ap (λ (s : DigitSets). after_digit s tokens (get_or pair 1 0)) same ∙ event_by_digit place tokens (get_or pair 1 0) first.digit)
            ∙ (rw first.codes at (r.alike place same));
      }
      )

  none_left : (left : List ℕ) → length left < 2 → Reached digits left sets tokens → (place : Place) → sets ≡ digit_sets place
      → tokens ≡ after_trace place (codes_in digits)
  unfolding codes_in
  none_left [] few r place same = r.alike place same ∙ event_by_event place (codes_in digits)
  none_left (d ∷ []) few r place same = r.alike place same ∙ event_by_event place (codes_in digits)
  none_left (d ∷ (e ∷ left)) few r place same = absurd (omega arith)

pub loop-pair-preserved : goal.loop-pair-preserved
loop-pair-preserved c =
    let steps = c.in-Some.ensures.steps in
    let before = c.loop-pair.invariant in (
      steps.0 ∙ before.0,
      one_more _ _ _ _ (steps.1.1 ∙ before.0) c.after-tokens.ensures (rw steps.1.0 at before.1),
    )

pub returns : goal.returns
returns c =
    let before = c.loop-pair.invariant in
    none_left _ _ _ (omega (arith, c.in-None.ensures.steps, before.0)) before.1
