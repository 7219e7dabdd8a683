-- The bits that replaying an event computes with, read back: a signed local holds bits, and the
-- numbers of a trace are far below 2 to the power 15, so that each step is the step of the
-- integers.
-- Assumes nothing.
use Rattle.std.proofs.Common.{◌≡◌, ℕ, ◌+◌, ◌*◌, ◌%◌, ◌≤◌, ◌<◌, ℤ, pos, ◌+ℤ◌, ◌-ℤ◌, to_z, of_z, arith}
use Rattle.std.proofs.lemmas.Int.{ints}
use Rattle.std.specs.Int.{int_min}
use Rattle.std.specs.Int.Signed.{mag}
use lib.Signed.{lt_z}
use mir.Syntax.{w16}
use mir.Val.{SFits}
use mir.ValLaws.{to_z-of_z}
use Rattle.foundation.proofs.laws.Differences.{mag_add, mag_sub}
use Rattle.places.specs.Sets.{has}
use Rattle.event_log_spec.specs.Frames.{most_events}
use Rattle.replay_spec.specs.Balance.{smaller}
use Rattle.token_replay.specs.declared.DigitSets.{DigitSets}
use Rattle.token_replay.specs.declared.Tokens.{Tokens}
use Rattle.token_replay.specs.Tokens.{after_digit}

-- a number of 16 bits, read back from its bits
abbrev pub back : ℤ → ℤ
back z = to_z w16 (of_z w16 z)

-- so its sign is that of the number
pub below_zero : (z : ℤ) → SFits w16 z → lt_z (back z) (pos 0) ≡ lt_z z (pos 0)
below_zero z f = rw (to_z-of_z w16 z f)

pub above_zero : (z : ℤ) → SFits w16 z → lt_z (pos 0) (back z) ≡ lt_z (pos 0) z
above_zero z f = rw (to_z-of_z w16 z f)

-- a balance from which a token or none is taken, as the machine computes it
abbrev taken : ℤ → ℕ → ℤ
taken balance takes = back balance -ℤ to_z w16 takes

module _ (balance : ℤ) (few : mag balance ≤ 2 * most_events) (takes : ℕ) (one : takes ≤ 1) where
  given_is : (gives : ℕ) → gives ≤ 1 → back (back (taken balance takes) +ℤ to_z w16 gives) ≡ (balance -ℤ pos takes) +ℤ pos gives
  given_is gives h = omega (arith, ints)

  least_is : (least next : ℤ) → mag least < 32768 → mag next < 32768 → next ≡ int_min (back least) (back (taken balance takes))
      → back next ≡ smaller least (balance -ℤ pos takes)
  least_is least next h k e = grind (arith, ints)

module _ (s : DigitSets) (t : Tokens) (digit : ℕ) where
  abbrev takes : ℕ
  takes = has s.outputs (digit % 32)

  abbrev gives : ℕ
  gives = has s.inputs (digit % 32)

  -- an event changes the balance by at most 2 in this measure, in which n and -(n + 1) count alike
  pub mag_event : mag (after_digit s t digit).balance ≤ mag t.balance + 2
  unfolding after_digit
  mag_event = omega (arith, mag_sub t.balance takes, mag_add (t.balance -ℤ pos takes) gives)

  -- what the event leaves, as the machine computes it
  pub event_bits : (next : ℤ) → mag t.balance ≤ 2 * most_events → mag t.least < 32768 → mag next < 32768
      → next ≡ int_min (back t.least) (back (taken t.balance takes))
      → record { balance = back (back (taken t.balance takes) +ℤ to_z w16 gives); least = back next } ≡ after_digit s t digit
  unfolding after_digit
  event_bits next few h k e =
      rw (
        given_is t.balance few takes (omega arith) gives (omega arith),
        least_is t.balance few takes (omega arith) t.least next h k e,
      )
