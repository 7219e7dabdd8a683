-- Where all words that can be the next part have too few inputs for their outputs, or all too many,
-- there is no cover. The parts of a cover have the inputs and the outputs of the whole between
-- them, so they cannot all be on the same side of it.
-- Assumes nothing.
use Prim.Native.Nat.{ℕ, ◌+◌, ◌-◌, ◌*◌, ◌/◌, ◌%◌, ◌≤◌, ◌<◌}
use native.Mathlib.Nat.{add-mul, mul-add, mul_comm, zero-mul}
use native.Mathlib.Omega.{arith}
use mathlib.Core.Path.{◌≡◌, refl, sym, ap, ◌∙◌}
use mathlib.Core.Bool.{Bool, true, false, ◌&&◌}
use mathlib.Core.List.{List, Memᴰ}
use borrow.Author.Tests.{leb-false}
use lib.Bits.{bit_and, and_self}
use lib.Count.{ones}
use Rattle.std.specs.List.{list_any}
use Rattle.foundation.proofs.laws.Booleans.{by_test}
use Rattle.foundation.proofs.laws.Each.{none_each}
use Rattle.foundation.proofs.laws.Members.{each_member}
use Rattle.reduction_spec.specs.Cover.{usable, Cover, nothing_left, take_part, input_count, output_count, many_inputs, few_inputs, balanced}
use Rattle.reduction_spec.proofs.laws.Parts.{Part, part_ones, part_lower, part_upper, rest_lower, rest_upper}
use Rattle.reduction_spec.proofs.laws.Covers.{usable_parts, parts_usable}
use Rattle.reduction_spec.proofs.laws.CoverParts.{part_trans, part_rest}

-- inputs and outputs of a part and of what it leaves add up
part_inputs : (w l : ℕ) → Part w l → input_count w + input_count (l - w) ≡ input_count l
part_inputs w l e = rw (rest_lower w l e) (part_ones (w % 65536) (l % 65536) (part_lower w l e))

part_outputs : (w l : ℕ) → Part w l → output_count w + output_count (l - w) ≡ output_count l
part_outputs w l e = rw (rest_upper w l e) (part_ones (w / 65536) (l / 65536) (part_upper w l e))

-- a word that can be the next part of a part of what is left can be that of what is left
usable_here : (whole left l w : ℕ) → Part l left → usable whole l w ≡ true → usable whole left w ≡ true
usable_here whole left l w small u =
    let own = usable_parts whole l w u in
    parts_usable whole left w (part_trans w l left own.0 small) own.1

-- two counts that add up over parts, and words of which each that can be the next part has less of
-- the first for its second than what is left
module _ (f g : ℕ → ℕ) (f_parts : (w l : ℕ) → Part w l → f w + f (l - w) ≡ f l) (g_parts : (w l : ℕ) → Part w l → g w + g (l - w) ≡ g l)
    (f_none : f 0 ≡ 0) (words : List ℕ) (whole left : ℕ)
    (all : (w : ℕ) → Memᴰ w words → usable whole left w ≡ true → f w * g left < f left * g w) where
  -- what holds of a part and of what it leaves holds of both together
  together : (l w : ℕ) → Part w l → f w * g left < f left * g w → f (l - w) * g left ≤ f left * g (l - w) → f l * g left < f left * g l
  together l w e own rest =
      omega (
        arith,
        own,
        rest,
        ap (λ (n : ℕ). n * g left) (sym (f_parts w l e)) ∙ add-mul (f w) (f (l - w)) (g left),
        ap (λ (n : ℕ). f left * n) (sym (g_parts w l e)) ∙ mul-add (f left) (g w) (g (l - w)),
      )

  at_most : {l : ℕ} → Part l left → Cover words whole l → f l * g left ≤ f left * g l
  at_most small nothing_left = omega (arith, ap (λ (n : ℕ). n * g left) f_none ∙ zero-mul (g left))
  at_most small (take_part {left = l} w m u rest) =
      let part = (usable_parts whole l w u).0 in
      let later = at_most (part_trans (l - w) l left (part_rest w l part) small) rest in
      omega (arith, together l w part (all w m (usable_here whole left l w small u)) later)

  -- so they do not make up what is left
  one_sided : {l : ℕ} → l ≡ left → (l ≡ 0 → ⊥) → Cover words whole l → ⊥
  one_sided same some nothing_left = some refl
  one_sided same some (take_part {left = l} w m u rest) =
      let small : Part l left = ap (bit_and l) (sym same) ∙ and_self l in
      let part = (usable_parts whole l w u).0 in
      let later = at_most (part_trans (l - w) l left (part_rest w l part) small) rest in
      omega (arith, together l w part (all w m (usable_here whole left l w small u)) later, ap (λ (n : ℕ). f n * g left) same, ap (λ (n : ℕ). f left * g n) same)

-- of a word that can be the next part, where none of those passes a test
fails : (words : List ℕ) (whole left : ℕ) (test : ℕ → Bool) → list_any (λ (w : ℕ). usable whole left w && test w) words ≡ false
    → (w : ℕ) → Memᴰ w words → usable whole left w ≡ true → test w ≡ false
fails words whole left test none w m u = ap (λ (b : Bool). b && test w) (sym u) ∙ each_member (none_each _ words none) m

module _ {words : List ℕ} {whole left : ℕ} where
  too_few : list_any (λ (w : ℕ). usable whole left w && many_inputs left w) words ≡ false → (left ≡ 0 → ⊥) → Cover words whole left → ⊥
  unfolding many_inputs ones
  too_few none some cover =
      one_sided input_count output_count part_inputs part_outputs refl words whole left (λ w m u.
      leb-false _ _ (fails words whole left (many_inputs left) none w m u)) refl some cover

  too_many : list_any (λ (w : ℕ). usable whole left w && few_inputs left w) words ≡ false → (left ≡ 0 → ⊥) → Cover words whole left → ⊥
  unfolding few_inputs ones
  too_many none some cover =
      one_sided output_count input_count part_outputs part_inputs refl words whole left (λ w m u.
      let less = leb-false (input_count w * output_count left) (input_count left * output_count w) (fails words whole left (few_inputs left) none w m u) in
      omega (arith, less, mul_comm (output_count w) (input_count left), mul_comm (output_count left) (input_count w))) refl some cover

  pub unbalanced : balanced words whole left ≡ false → (left ≡ 0 → ⊥) → Cover words whole left → ⊥
  unfolding balanced
  unbalanced e some cover =
      by_test
      (list_any (λ (w : ℕ). usable whole left w && many_inputs left w) words)
      (λ t. too_many (rw t at e) some cover)
      (λ t. too_few t some cover)
