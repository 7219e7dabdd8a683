-- Numbers as sets of bits. A word is a part of another where their common bits are all its own.
-- What is left when a part is taken away has the other bits, so two parts that share no bit can be
-- taken away in either order. The bits of a part from bit k on, and those below k, are a part of
-- those of the whole, so the rest can be had bit by bit, and what has all bits of a word has it as
-- a part.
-- Assumes nothing.
use Prim.Native.Nat.{ℕ, ◌+◌, ◌-◌, ◌*◌, ◌/◌, ◌%◌, ◌^◌, ◌≤◌, ◌<◌, min}
use native.Mathlib.Omega.{arith}
use native.Mathlib.Nat.{add-mul, mod-lt, zero-div, sub-zero}
use mathlib.Core.Path.{◌≡◌, refl, sym, ap, ◌∙◌}
use lib.Arith.{bin_ind}
use lib.Bits.{bit_and, and_step, and_shr, and_mod, and_le_r}
use lib.Count.{ones, ones_step}
use lib.Pow.{pow_pos, split, high, shr-shr}
use Rattle.places.specs.Sets.{has}

-- w is a part of l
abbrev pub Part : ℕ → ℕ → Type 0
Part w l = bit_and w l ≡ w

pub part_le : (w l : ℕ) → Part w l → w ≤ l
part_le w l e = omega (arith, and_le_r w l)

-- the bits from k on, and those below k
module _ (w l k : ℕ) (e : Part w l) where
  part_high : Part (w / 2 ^ k) (l / 2 ^ k)
  part_high = sym (and_shr w l k) ∙ ap (λ (x : ℕ). x / 2 ^ k) e

  low_le : w % 2 ^ k ≤ l % 2 ^ k
  low_le = part_le (w % 2 ^ k) (l % 2 ^ k) (sym (and_mod w l k) ∙ ap (λ (x : ℕ). x % 2 ^ k) e)

  high_le : w / 2 ^ k ≤ l / 2 ^ k
  high_le = part_le (w / 2 ^ k) (l / 2 ^ k) part_high

  -- the lower bits borrow nothing from the higher ones
  rest_high : (l - w) / 2 ^ k ≡ l / 2 ^ k - w / 2 ^ k
  rest_high = ap (λ (x : ℕ). x / 2 ^ k) rest ∙ high above k (omega (arith, mod-lt l (pow_pos k)))
    where
      above : ℕ
      above = l / 2 ^ k - w / 2 ^ k

      highs : l / 2 ^ k * 2 ^ k ≡ above * 2 ^ k + w / 2 ^ k * 2 ^ k
      highs = ap (λ (x : ℕ). x * 2 ^ k) (omega (arith, high_le)) ∙ add-mul above (w / 2 ^ k) (2 ^ k)

      rest : l - w ≡ above * 2 ^ k + (l % 2 ^ k - w % 2 ^ k)
      rest = omega (arith, split l k, split w k, highs, low_le)

-- the halves of a part are parts of the halves, and what they leave are the halves of what the part
-- leaves
module _ (w l : ℕ) (e : Part w l) where
  pub part_lower : Part (w % 65536) (l % 65536)
  part_lower = sym (and_mod w l 16) ∙ ap (λ (x : ℕ). x % 65536) e

  pub part_upper : Part (w / 65536) (l / 65536)
  part_upper = part_high w l 16 e

  pub rest_upper : (l - w) / 65536 ≡ l / 65536 - w / 65536
  rest_upper = rest_high w l 16 e

  pub rest_lower : (l - w) % 65536 ≡ l % 65536 - w % 65536
  rest_lower = omega (arith, rest_upper, low_le w l 16 e, high_le w l 16 e)

-- low and high half of a part are no larger than those of the whole
pub part_halves : (w l : ℕ) → Part w l → (w % 65536 ≤ l % 65536) × (w / 65536 ≤ l / 65536)
part_halves w l e = (low_le w l 16 e, high_le w l 16 e)

-- each bit of l is one of the part or of the rest
pub part_has : (w l a : ℕ) → Part w l → has w a + has (l - w) a ≡ has l a
part_has w l a e = rw (rest_high w l a e) (omega (arith, high_le w l a e, low_le (w / 2 ^ a) (l / 2 ^ a) 1 (part_high w l a e)))

-- what has every bit of w has w as a part
pub bits_part : (w l : ℕ) → ((a : ℕ) → has w a ≤ has l a) → Part w l
bits_part =
    bin_ind
    (λ (w : ℕ). (l : ℕ) → ((a : ℕ) → has w a ≤ has l a) → Part w l)
    (λ l h. refl)
    (λ w ih l h.
    omega (arith, and_step w l, ih (l / 2) (λ a. rw (shr-shr w 1 a, shr-shr l 1 a) (h (1 + a))), h 0))

-- a part of the rest is a part
pub rest_part : (w v l : ℕ) → Part w l → Part v (l - w) → Part v l
rest_part w v l e f = bits_part v l λ a. omega (arith, part_has w l a e, part_has v (l - w) a f)

-- two parts, the second one of what the first leaves, can be taken the other way round
pub parts_swap : (w v l : ℕ) → Part w l → Part v (l - w) → Part w (l - v)
parts_swap w v l e f =
    bits_part w (l - v) λ a. omega (arith, part_has w l a e, part_has v (l - w) a f, part_has v l a (rest_part w v l e f))

-- no part but the empty one can be taken twice
pub part_once : (w l : ℕ) → Part w l → Part w (l - w) → w ≡ 0
part_once w l e f =
    omega (arith, part_le w 0 (bits_part w 0 λ a. omega (arith, part_has w l a e, part_has w (l - w) a f, zero-div (2 ^ a))))

-- a part and the rest have the bits of the whole between them
pub part_ones : (w l : ℕ) → Part w l → ones w + ones (l - w) ≡ ones l
unfolding ones
part_ones =
    bin_ind
    (λ (w : ℕ). (l : ℕ) → Part w l → ones w + ones (l - w) ≡ ones l)
    (λ l e. omega (arith, ap ones (sub-zero l)))
    (λ w ih l e.
    omega (
      arith,
      ones_step w,
      ones_step l,
      ones_step (l - w),
      ap ones (rest_high w l 1 e),
      ih (l / 2) (part_high w l 1 e),
      part_le w l e,
      low_le w l 1 e,
    ))

pub ones_some : (w : ℕ) → 0 < w → 0 < ones w
ones_some w h = omega (arith, bin_ind (λ (n : ℕ). min 1 n ≤ ones n) (omega arith) (λ n ih. omega (arith, ones_step n)) w)
