-- What operations on a set's bits say of its codes. The bits that two sets share are the codes of
-- both, so a set is within another exactly if the bits that they share are all its own. A set has
-- as many codes as bits that are set, since halving it takes the same from both counts.
-- Assumes nothing.
use Prim.Native.Nat.{ℕ, zero, suc, ◌+◌, ◌*◌, ◌/◌, ◌%◌, ◌^◌, ◌≤◌, ◌<◌}
use native.Mathlib.Omega.{arith}
use native.Mathlib.Nat.{pow-suc, lt_of_lt_of_le}
use mathlib.Core.Path.{◌≡◌, ap, ◌∙◌}
use mathlib.Core.Bool.{true}
use lib.Arith.{lt-one}
use lib.Dec.{eqb}
use lib.Pow.{pow_mono}
use lib.Bits.{bit_and, and_le_l}
use lib.Count.{ones, ones_step}
use borrow.Author.Tests.{eqb-true, eqb-false, eq-eqb, ne_eqb}
use Rattle.foundation.proofs.laws.Booleans.{by_test, impossible}
use Rattle.foundation.proofs.laws.Each.{all_kept, each_up_to}
use Rattle.limits.specs.Settings.{most_activities}
use Rattle.places.specs.Sets.{has, member, codes, size, within}
use Rattle.candidate_order_spec.proofs.laws.Doubling.{size_raised, size_raised_zero}
use Rattle.places.proofs.laws.Lighter.{within_has}
use Rattle.places.proofs.laws.SetBits.{has_and, same_codes}

module _ (s t : ℕ) (small : s < 2 ^ 16) where
  within_shared : within s t ≡ true → bit_and s t ≡ s
  within_shared e =
      same_codes 16 (bit_and s t) s (omega (arith, and_le_l s t)) small λ a l. omega (arith, has_and s t a, within_has s t e a l)

  shared_within : bit_and s t ≡ s → within s t ≡ true
  unfolding within codes
  shared_within e = all_kept (member t) (member s) (each_up_to most_activities λ a l. known a)
    where
      known : (a : ℕ) → member s a ≡ true → member t a ≡ true
      known a m =
          eq-eqb (has t a) 1 (omega (arith, has_and s t a, eqb-true (has s a) 1 m, ap (λ (x : ℕ). has x a) e))

  -- the common bits are all bits of the set exactly where it is within the other
  pub shared_is_within : eqb (bit_and s t) s ≡ within s t
  shared_is_within =
      by_test
      (within s t)
      (λ e. rw e (eq-eqb (bit_and s t) s (within_shared e)))
      (λ e. rw e (ne_eqb (bit_and s t) s λ same. impossible (cc (shared_within same))))

-- half of a set has its codes above 0
size_half : (s : ℕ) → s < 2 ^ 16 → size s ≡ s % 2 + size (s / 2)
size_half s small =
    by_test
    (eqb (s % 2) 0)
    (λ e.
    let even : s ≡ 2 * (s / 2) = omega (arith, eqb-true (s % 2) 0 e) in
    omega (arith, ap size even ∙ size_raised (s / 2) (omega arith)))
    (λ e.
    let odd : s ≡ 2 * (s / 2) + 1 = omega (arith, eqb-false (s % 2) 0 e) in
    omega (arith, ap size odd ∙ size_raised_zero (s / 2) (omega arith)))

-- a set of codes below k has as many codes as bits that are set
pub ones_size : (k s : ℕ) → k ≤ 16 → s < 2 ^ k → ones s ≡ size s
unfolding size codes ones
ones_size zero s most small = rw (lt-one small)
ones_size (suc k) s most small =
    omega (
      arith,
      ones_step s,
      ones_size k (s / 2) (omega arith) (omega (arith, pow-suc 2 k)),
      size_half s (lt_of_lt_of_le small (pow_mono most)),
    )
