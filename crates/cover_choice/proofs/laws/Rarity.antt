-- The choice of the activity to cover next from what was tallied. Activities that some word can
-- cover are left, since such a word is a part of what is left. So where they are not all that is
-- left there is no cover; and else an activity that is not among those that two words can cover has
-- exactly one choice, and no activity that is left has fewer. Likewise with two. Where the tally
-- does not tell, the choices of every activity are counted.
-- Assumes nothing.
use Prim.Native.Nat.{ℕ, ◌-◌, ◌^◌, ◌≤◌, ◌<◌, min}
use native.Mathlib.Omega.{arith}
use native.Mathlib.Nat.{le_antisymm}
use mathlib.Core.Path.{◌≡◌, refl, ap}
use mathlib.Core.Bool.{false, ◌&&◌}
use mathlib.Core.List.{List}
use borrow.Author.Tests.{eqb-true, eqb-false, ne_eqb, ltb-true, ltb-false}
use lib.Dec.{eqb, ltb}
use lib.ListN.{length}
use Rattle.foundation.proofs.laws.Booleans.{by_test}
use Rattle.foundation.proofs.laws.Each.{filter_none, each_always}
use Rattle.places.specs.Sets.{has, member}
use Rattle.reduction_spec.specs.Cover.{usable, Cover, choices}
use Rattle.reduction_spec.proofs.laws.Parts.{Part, part_le, part_has, bits_part}
use Rattle.reduction_spec.proofs.laws.Covers.{usable_parts, uncoverable}
use Rattle.cover_choice.specs.declared.Tally.{Tally}
use Rattle.cover_choice.specs.Choosing.{Tallied, Fewest, Promising}
use Rattle.cover_choice.proofs.laws.HighestBit.{no_bit}

module _ (words : List ℕ) (whole left : ℕ) where
  -- no word can cover an activity that is not left
  none_beyond : (a : ℕ) → has left a ≡ 0 → choices words whole left a ≡ 0
  unfolding choices
  none_beyond a e = ap length (filter_none _ (each_always (λ (w : ℕ). not_both w) words))
    where
      not_both : (w : ℕ) → (usable whole left w && member w a) ≡ false
      not_both w =
          by_test
          (usable whole left w)
          (λ u. rw u (ne_eqb (has w a) 1 λ one. omega (arith, part_has w left a (usable_parts whole left w u).0)))
          (λ u. rw u refl)

  -- so the activities that some word can cover are left
  left_first : (a : ℕ) → min 1 (choices words whole left a) ≤ has left a
  left_first a =
      by_test
      (eqb (has left a) 0)
      (λ e. omega (arith, none_beyond a (eqb-true (has left a) 0 e)))
      (λ e. omega (arith, eqb-false (has left a) 0 e))

-- what was tallied, and with it what is left
module _ {words : List ℕ} {whole left : ℕ} where
  module _ {t : Tally} (h : Tallied words whole left t) where
    once_part : Part t.once left
    once_part = bits_part t.once left λ a. omega (arith, h.once a, left_first words whole left a)

    pub twice_part : Part t.twice left
    twice_part = bits_part t.twice left λ a. omega (arith, h.twice a, left_first words whole left a)

    pub thrice_part : Part t.thrice left
    thrice_part = bits_part t.thrice left λ a. omega (arith, h.thrice a, left_first words whole left a)

    -- some activity that is left is in no word
    pub no_cover : (t.once ≡ left → ⊥) → Cover words whole left → ⊥
    no_cover differ cover = differ (le_antisymm (part_le t.once left once_part) (part_le left t.once (bits_part left t.once covered)))
      where
        covered : (a : ℕ) → has left a ≤ has t.once a
        covered a =
            by_test
            (eqb (choices words whole left a) 0)
            (λ e.
            by_test
            (member left a)
            (λ m. absurd (uncoverable a (eqb-true (has left a) 1 m) (eqb-true (choices words whole left a) 0 e) cover))
            (λ m. omega (arith, eqb-false (has left a) 1 m)))
            (λ e. omega (arith, h.once a, eqb-false (choices words whole left a) 0 e))

    -- what is known where all activities that are left are in a word, in two
    in_one : t.once ≡ left → (a : ℕ) → has left a ≡ 1 → 1 ≤ choices words whole left a
    in_one e a l = omega (arith, h.once a, ap (λ (x : ℕ). has x a) e)

    in_two : t.twice ≡ left → (a : ℕ) → has left a ≡ 1 → 2 ≤ choices words whole left a
    in_two e a l = omega (arith, h.twice a, ap (λ (x : ℕ). has x a) e)

    module _ (one : t.once ≡ left) (a : ℕ) (small : a < 32) where
      -- an activity that only one word can cover
      pub single : has (left - t.twice) a ≡ 1 → Promising words whole left a
      single e =
          let bit = part_has t.twice left a twice_part in
          record {
            fewest =
                record {
                  known = small;
                  uncovered = omega (arith, bit);
                  fewest = λ b l. omega (arith, bit, h.twice a, in_one one b l);
                };
            coverable = in_one one a (omega (arith, bit));
            in_balance = λ many. absurd (omega (arith, bit, h.twice a));
          }

      -- where there is none, one that only two can cover
      pub double : t.twice ≡ left → has (left - t.thrice) a ≡ 1 → Promising words whole left a
      double two e =
          let bit = part_has t.thrice left a thrice_part in
          record {
            fewest =
                record {
                  known = small;
                  uncovered = omega (arith, bit);
                  fewest = λ b l. omega (arith, bit, h.thrice a, in_two two b l);
                };
            coverable = in_one one a (omega (arith, bit));
            in_balance = λ many. absurd (omega (arith, bit, h.thrice a));
          }

    -- else some word can cover each
    pub some_word : t.once ≡ left → {a : ℕ} → Fewest words whole left a → 0 < choices words whole left a
    some_word one {a = a} f = in_one one a f.uncovered

-- the activity with the fewest choices, found one activity after the other
pub record Sought (words : List ℕ) (whole left rarest fewest next : ℕ) : Type 0 where
  pub known : rarest < 32
  pub uncovered : has left rarest ≡ 1
  pub counted : fewest ≡ choices words whole left rarest
  pub so_far : (b : ℕ) → b < next → has left b ≡ 1 → fewest ≤ choices words whole left b

-- at the end all activities were looked at, since none is beyond 32 bits
pub all_sought : {words : List ℕ} {whole left rarest fewest next : ℕ} → Sought words whole left rarest fewest next
    → left < 2 ^ 32 → 32 ≤ next → Fewest words whole left rarest
all_sought {left} {next} s small end =
    record {
      known = s.known;
      uncovered = s.uncovered;
      fewest = λ b h.
          by_test
          (ltb b next)
          (λ e. omega (arith, s.counted, s.so_far b (ltb-true b next e) h))
          (λ e. absurd (omega (arith, no_bit left 32 b small (omega (arith, ltb-false b next e)))));
    }
