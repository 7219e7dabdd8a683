-- `variants::tally::Tally::of` meets its contract: each turn counts the event of the next two
-- digits.
-- Assumes nothing.
use Rattle.std.proofs.Common.{ℕ, List, [], ◌∷◌, ◌++◌, length, get_or, ◌≡◌, ◌+◌, ◌*◌, ◌≤◌, ◌<◌, ◌∙◌, arith}
use lib.ListN.{set}
use Rattle.hex_digits.specs.Digits.{digit_value}
use Rattle.event_log_spec.specs.Frames.{most_events}
use Rattle.variants.proofs.laws.Tallying.{Tallied, one_fits, one_tallied, all_tallied}
use Rattle.variants.proofs.tally.Tally.of.Goals as goal

module _ (digits counts : List ℕ) where
  -- what two digits that stand before the others leave
  pair_fits : (pair left : List ℕ) → length pair ≡ 2 → length digits ≤ 2 * most_events → Tallied digits (pair ++ left) counts
      → get_or counts (digit_value (get_or pair 1 0)) 0 + 1 < 256
  pair_fits [] left two short t = absurd (omega arith)
  pair_fits (d ∷ []) left two short t = absurd (omega arith)
  pair_fits (d ∷ (digit ∷ [])) left two short t = one_fits digits counts d digit left t short
  pair_fits (d ∷ (digit ∷ (x ∷ xs))) left two short t = absurd (omega arith)

  pair_tallied : (pair left : List ℕ) → length pair ≡ 2 → Tallied digits (pair ++ left) counts
      → let code = digit_value (get_or pair 1 0) in
      Tallied digits left (set counts code (get_or counts code 0 + 1))
  pair_tallied [] left two t = absurd (omega arith)
  pair_tallied (d ∷ []) left two t = absurd (omega arith)
  pair_tallied (d ∷ (digit ∷ [])) left two t = one_tallied digits counts d digit left t
  pair_tallied (d ∷ (digit ∷ (x ∷ xs))) left two t = absurd (omega arith)

pub overflow_add-counts : goal.overflow_add-counts
overflow_add-counts c =
    let steps = c.in-Some.ensures.steps in
    let before = c.loop-pair.invariant in
    rw (c.from.ensures, c.digit_value.ensures) (omega (arith, pair_fits _ _ _ _ (steps.1.1 ∙ before.0) c.requires.0 (rw steps.1.0 at before.1)))

pub loop-pair-preserved : goal.loop-pair-preserved
loop-pair-preserved c =
    let steps = c.in-Some.ensures.steps in
    let before = c.loop-pair.invariant in (
      steps.0 ∙ before.0,
      rw (c.from.ensures, c.digit_value.ensures) (pair_tallied _ _ _ _ (steps.1.1 ∙ before.0) (rw steps.1.0 at before.1)),
    )

pub returns : goal.returns
returns c =
    let before = c.loop-pair.invariant in
    all_tallied _ _ _ (omega (arith, c.in-None.ensures.steps, before.0)) before.1
