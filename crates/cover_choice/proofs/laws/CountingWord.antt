-- The activities of a word, counted one after the other: an activity that is counted is taken from
-- the rest, which keeps its other activities, so each is counted once.
-- Assumes nothing.
use Prim.Native.Nat.{ℕ, zero, suc, ◌+◌, ◌-◌, ◌*◌, ◌/◌, ◌%◌, ◌^◌, ◌<◌}
use native.Mathlib.Omega.{arith}
use native.Mathlib.Nat.{zero-div, one-mul, pow-suc}
use mathlib.Core.Path.{◌≡◌, refl, sym, ap, subst, ◌∙◌}
use mathlib.Core.List.{List}
use borrow.Author.Tests.{eqb-true, eqb-false}
use lib.Dec.{eqb}
use lib.ListN.{length, get_or, set, length-set}
use lib.Pow.{shl_exact, shl-shr}
use lib.Seq.{get_or-set_same, get_or-set_other}
use Rattle.foundation.proofs.laws.Booleans.{by_test}
use Rattle.places.specs.Sets.{has}
use Rattle.places.proofs.laws.SetBits.{has_half}
use Rattle.reduction_spec.proofs.laws.Parts.{Part, part_has, bits_part}

-- one activity alone
own_bit : (a : ℕ) → has (2 ^ a) a ≡ 1
own_bit a = ap (λ (q : ℕ). q % 2) (rw (one-mul (2 ^ a)) at (shl-shr 1 a))

other_bit : (a b : ℕ) → (b ≡ a → ⊥) → has (2 ^ a) b ≡ 0
other_bit zero zero differ = absurd (differ refl)
other_bit zero (suc b) differ = has_half 1 b ∙ omega (arith, zero-div (2 ^ b))
other_bit (suc a) zero differ = omega (arith, pow-suc 2 a)
other_bit (suc a) (suc b) differ =
    has_half (2 ^ suc a) b ∙ ap (λ (s : ℕ). has s b) half ∙ other_bit a b (λ e. differ (ap suc e))
  where
    half : 2 ^ suc a / 2 ≡ 2 ^ a
    half = omega (arith, pow-suc 2 a)

-- as 32 bits hold it
pub held_bit : (a : ℕ) → a < 32 → 1 * 2 ^ a % 4294967296 ≡ 2 ^ a
held_bit a small = shl_exact {a = 1} 1 a 32 (omega arith) (omega arith) ∙ one-mul (2 ^ a)

-- an activity of a word is a part of it
module _ (rest a : ℕ) (there : has rest a ≡ 1) where
  bit_part : Part (2 ^ a) rest
  bit_part =
      bits_part (2 ^ a) rest λ b.
      by_test
      (eqb b a)
      (λ e. let same = eqb-true b a e in omega (arith, own_bit a, ap (has (2 ^ a)) same, ap (has rest) same))
      (λ e. omega (arith, other_bit a b (eqb-false b a e)))

-- the counts before, and those after the activities of the word that are not in the rest
pub record CountedBut (word : ℕ) (before : List ℕ) (rest : ℕ) (counts : List ℕ) : Type 0 where
  pub wide : length counts ≡ 32
  pub so_far : (a : ℕ) → a < 32 → get_or counts a 0 + has rest a ≡ get_or before a 0 + has word a

module _ {word : ℕ} {before : List ℕ} where
  module _ {rest : ℕ} {counts : List ℕ} (c : CountedBut word before rest counts) (a : ℕ) (small : a < 32) (there : has rest a ≡ 1) where
    pub count_bit : CountedBut word before (rest - 2 ^ a) (set counts a (get_or counts a 0 + 1))
    count_bit = record { wide = length-set counts a _ ∙ c.wide; so_far = counted }
      where
        one : ℕ
        one = get_or counts a 0 + 1

        counted : (b : ℕ) → b < 32 → get_or (set counts a one) b 0 + has (rest - 2 ^ a) b ≡ get_or before b 0 + has word b
        counted b l =
            by_test
            (eqb b a)
            (λ e.
            subst
            (λ (b : ℕ). get_or (set counts a one) b 0 + has (rest - 2 ^ a) b ≡ get_or before b 0 + has word b)
            (sym (eqb-true b a e))
            (omega (
              arith,
              c.so_far a small,
              get_or-set_same counts a one 0 (omega (arith, c.wide)),
              part_has (2 ^ a) rest a (bit_part rest a there),
              own_bit a,
            )))
            (λ e.
            let differ = eqb-false b a e in
            omega (
              arith,
              c.so_far b l,
              get_or-set_other counts a b one 0 differ,
              part_has (2 ^ a) rest b (bit_part rest a there),
              other_bit a b differ,
            ))
