-- The activities that one, two and three words can cover, found one word after the other. A word
-- that can be the next part adds one to the choices of each of its activities, so an activity that
-- it has moves from those that n words can cover to those that n + 1 can.
-- Assumes nothing.
use Prim.Native.Nat.{ℕ, zero, suc, ◌+◌, ◌-◌, ◌^◌, ◌≤◌, ◌<◌, min, max}
use native.Mathlib.Omega.{arith}
use native.Mathlib.Nat.{zero-div}
use mathlib.Core.Path.{◌≡◌}
use mathlib.Core.Bool.{true, false}
use mathlib.Core.List.{List, []}
use lib.Bits.{bit_and, bit_or}
use lib.ListN.{length, get_or, take}
use Rattle.places.specs.Sets.{has}
use Rattle.places.proofs.laws.SetBits.{has_and, has_or}
use Rattle.reduction_spec.specs.Cover.{usable, choices}
use Rattle.cover_choice.specs.declared.Tally.{Tally}
use Rattle.cover_choice.specs.Choosing.{Tallied}
use Rattle.cover_choice.proofs.laws.CountingChoices.{choices_same, choices_one}

-- a tally by its three sets
abbrev pub tally : ℕ → ℕ → ℕ → Tally
tally once twice thrice = record { once = once; twice = twice; thrice = thrice }

at_least_one : (n : ℕ) → 1 ≤ n → min 1 n ≡ 1
at_least_one n l = omega arith

-- an activity in n words, and in a further one or not: it is in two of them all where it was in two
-- before, or where it was in one and is in the further one
in_two : (n b : ℕ) → b ≤ 1 → max (min 1 (n - 1)) (min (min 1 n) b) ≡ min 1 (n + b - 1)
in_two zero b few = omega arith
in_two (suc zero) b few = omega arith
in_two (suc (suc n)) b few =
    rw (at_least_one (suc (suc n) - 1) (omega arith), at_least_one (suc (suc n) + b - 1) (omega arith)) (omega arith)

-- likewise in three
in_three : (n b : ℕ) → b ≤ 1 → max (min 1 (n - 2)) (min (min 1 (n - 1)) b) ≡ min 1 (n + b - 2)
in_three zero b few = omega arith
in_three (suc n) b few = rw (fewer_by_two n, fewer n, sum_fewer n b) (in_two n b few)
  where
    fewer : (n : ℕ) → suc n - 1 ≡ n
    fewer n = omega arith

    fewer_by_two : (n : ℕ) → suc n - 2 ≡ n - 1
    fewer_by_two n = omega arith

    sum_fewer : (n b : ℕ) → suc n + b - 2 ≡ n + b - 1
    sum_fewer n b = omega arith

module _ (whole left : ℕ) where
  -- no word yet
  pub tally_none : Tallied [] whole left (tally 0 0 0)
  unfolding choices
  tally_none =
      record {
        once = λ a. omega (arith, zero-div (2 ^ a));
        twice = λ a. omega (arith, zero-div (2 ^ a));
        thrice = λ a. omega (arith, zero-div (2 ^ a));
      }

  module _ (words : List ℕ) (at : ℕ) (l : at < length words) where
    abbrev w : ℕ
    w = get_or words at 0

    -- a word that cannot be the next part
    pub tally_same : {t : Tally} → usable whole left w ≡ false → Tallied (take at words) whole left t → Tallied (take (at + 1) words) whole left t
    tally_same e h =
        record {
          once = λ a. omega (arith, h.once a, choices_same whole left words at l e a);
          twice = λ a. omega (arith, h.twice a, choices_same whole left words at l e a);
          thrice = λ a. omega (arith, h.thrice a, choices_same whole left words at l e a);
        }

    -- a word that can
    pub tally_more : (once twice thrice : ℕ) → usable whole left w ≡ true → Tallied (take at words) whole left (tally once twice thrice)
        → Tallied (take (at + 1) words) whole left (tally (bit_or once w) (bit_or twice (bit_and once w)) (bit_or thrice (bit_and twice w)))
    tally_more once twice thrice e h =
        record {
          once = λ a. rw (choices_one whole left words at l e a, has_or once w a, h.once a) (omega (arith, few a));
          twice = λ a. rw (choices_one whole left words at l e a, has_or twice (bit_and once w) a, has_and once w a, h.once a, h.twice a) (in_two _ _ (few a));
          thrice = λ a. rw (choices_one whole left words at l e a, has_or thrice (bit_and twice w) a, has_and twice w a, h.twice a, h.thrice a) (in_three _ _ (few a));
        }
      where
        few : (a : ℕ) → has w a ≤ 1
        few a = omega arith

-- what a loop over the words needs
pub ruleset tallying = (tally_none, tally_same, tally_more)
