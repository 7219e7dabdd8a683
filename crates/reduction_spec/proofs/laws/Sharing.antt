-- Words that share no bit: what another word shares with their sum it shares with one of the two,
-- each of them is a part of the sum, and the sum has no more bits than they. A part shares no bit
-- with the rest, so what shares no bit with the whole shares none with part and rest.
-- Assumes nothing.
use Prim.Native.Nat.{ℕ, ◌+◌, ◌-◌, ◌/◌, ◌^◌, ◌<◌}
use native.Mathlib.Omega.{arith}
use native.Mathlib.Nat.{zero-add}
use mathlib.Core.Path.{◌≡◌, refl, ap, ◌∙◌}
use mathlib.Core.Logic.{◌↔◌}
use lib.Arith.{bin_ind}
use lib.Bits.{bit_and, and_step, and_self, and_zero_r, or_disjoint, or_lt}
use Rattle.reduction_spec.proofs.laws.Parts.{Part, part_le}

-- by halving: without common bits nothing is carried over
shared_sum : (v u w : ℕ) → bit_and v u ≡ 0 → bit_and w (v + u) ≡ bit_and w v + bit_and w u
shared_sum =
    bin_ind (λ (v : ℕ). (u w : ℕ) → bit_and v u ≡ 0 → bit_and w (v + u) ≡ bit_and w v + bit_and w u) (λ u w e. simp (and_zero_r w, zero-add))
    λ v halved u w e.
    let half : (v + u) / 2 ≡ v / 2 + u / 2 = omega (arith, and_step v u) in
    omega (
      arith,
      and_step v u,
      and_step w v,
      and_step w u,
      and_step w (v + u),
      ap (bit_and (w / 2)) half ∙ halved (u / 2) (w / 2) (omega (arith, and_step v u)),
    )

pub apart_part : (v u : ℕ) → bit_and v u ≡ 0 → Part v (v + u)
apart_part v u e = omega (arith, shared_sum v u v e, and_self v)

pub apart_small : (k v u : ℕ) → v < 2 ^ k → u < 2 ^ k → bit_and v u ≡ 0 → v + u < 2 ^ k
apart_small k v u small_v small_u e = rw (or_disjoint v u e) at (or_lt k v u small_v small_u)

-- by halving: the part borrows nothing
pub part_apart : (v n : ℕ) → Part v n → bit_and v (n - v) ≡ 0
part_apart =
    bin_ind (λ (v : ℕ). (n : ℕ) → Part v n → bit_and v (n - v) ≡ 0) (λ n e. refl) λ v halved n e.
    let half : (n - v) / 2 ≡ n / 2 - v / 2 = omega (arith, and_step v n, part_le v n e) in
    omega (
      arith,
      and_step v n,
      and_step v (n - v),
      part_le v n e,
      ap (bit_and (v / 2)) half ∙ halved (n / 2) (omega (arith, and_step v n)),
    )

pub apart_both : (w v n : ℕ) → Part v n → (bit_and w n ≡ 0) ↔ ((bit_and w v ≡ 0) × (bit_and w (n - v) ≡ 0))
apart_both w v n e =
    let whole : n ≡ v + (n - v) = omega (arith, part_le v n e) in
    omega (arith, ap (bit_and w) whole ∙ shared_sum v (n - v) w (part_apart v n e))
