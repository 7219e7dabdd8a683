-- The parts of a text: its first ends before the first separator, and the others are those of what
-- stands after it. A search for the separator, byte by byte, ends where the first part does.
-- Assumes nothing.
use Rattle.std.proofs.Common.{ℕ, ◌≡◌, suc, ◌+◌, ◌-◌, ◌≤◌, ◌<◌, false, not, List, [], ◌∷◌, length, take, drop, get_or, eqb, eq-eqb, ne_eqb, sym, ap, ◌∙◌, arith}
use mathlib.Core.Path.{ap₂}
use Rattle.std.specs.List.{onto_first, position_or_len}
use Rattle.std.proofs.lemmas.List.{take_rest, drop_all}
use Rattle.std.proofs.lemmas.List.Folds.{length-prefix_len}
use Rattle.std.proofs.lemmas.List.Sums.{prefix_len-drop_yes, prefix_len-drop_no, prefix_len-drop_all}
use Rattle.std.proofs.Math.Numerals.{add-one, one-add}
use Rattle.foundation.proofs.laws.Booleans.{by_test}
use Rattle.case_notation.specs.Fields.{part_before, part_after, rest_after, parts_of}

module _ (byte x : ℕ) (xs : List ℕ) (other : eqb x byte ≡ false) where
  before_other : part_before byte (x ∷ xs) ≡ x ∷ part_before byte xs
  before_other = rw (other, one-add)

  after_other : part_after byte (x ∷ xs) ≡ part_after byte xs
  after_other = rw (other, one-add, add-one) (rw add-one)

pub parts_first : (byte : ℕ) (text : List ℕ) → 0 < length text
    → parts_of byte text ≡ part_before byte text ∷ parts_of byte (part_after byte text)
unfolding parts_of
parts_first byte [] some = absurd (omega arith)
parts_first byte (x ∷ []) some = by_test (eqb x byte) (λ t. rw t) (λ f. rw f)
parts_first byte (x ∷ y ∷ ys) some =
    by_test (eqb x byte)
    (λ t. rw t)
    (λ f.
    let longer : parts_of byte (x ∷ y ∷ ys) ≡ onto_first x (parts_of byte (y ∷ ys)) = rw f in
    longer
    ∙ ap (onto_first x) (parts_first byte (y ∷ ys) (omega arith))
    ∙ ap₂ (λ (before after : List ℕ). before ∷ parts_of byte after) (sym (before_other byte x (y ∷ ys) f)) (sym (after_other byte x (y ∷ ys) f)))

-- the search: the part goes on after another byte, stops at the separator, and ends with the text
module _ (byte : ℕ) where
  -- the search passes as many bytes as the part has
  passed : (text : List ℕ) → length (part_before byte text) ≡ position_or_len (λ b. eqb b byte) text
  passed text = length-prefix_len (λ b. not (eqb b byte)) text

  module _ (text : List ℕ) (at : ℕ) (so_far : at + length (part_before byte (drop at text)) ≡ length (part_before byte text)) where
    pub part_goes_on : at < length text → (get_or text at 0 ≡ byte → ⊥)
        → at + 1 + length (part_before byte (drop (at + 1) text)) ≡ length (part_before byte text)
    part_goes_on h other =
        let one = prefix_len-drop_yes (λ b. not (eqb b byte)) text at 0 h (ap not (ne_eqb _ byte other)) in
        omega (arith, so_far, one, passed (drop at text), passed (drop (at + 1) text))

    pub part_stops : at < length text → get_or text at 0 ≡ byte → at ≡ length (part_before byte text)
    part_stops h it =
        let none = prefix_len-drop_no (λ b. not (eqb b byte)) text at 0 h (ap not (eq-eqb _ byte it)) in
        omega (arith, so_far, none, passed (drop at text))

    pub part_ends : length text ≤ at → at ≡ length (part_before byte text)
    part_ends h =
        let none = prefix_len-drop_all (λ b. not (eqb b byte)) text at h in
        omega (arith, so_far, none, passed (drop at text))

  -- what stands before the byte that the search finds, and after it
  module _ (text : List ℕ) (end : ℕ) (found : end ≡ length (part_before byte text)) where
    pub found_before : take (end - 0) text ≡ part_before byte text
    found_before = ap (λ (n : ℕ). take n text) (omega (arith, found, passed text))

    pub found_after : take (length text - (end + 1)) (drop (end + 1) text) ≡ part_after byte text
    found_after =
        take_rest text (end + 1) ∙ ap (λ (n : ℕ). drop n text) (omega (arith, found, passed text))

    -- or does not find
    pub missed_after : length text ≤ end → take (length text - end) (drop end text) ≡ part_after byte text
    missed_after h =
        take_rest text end ∙ drop_all end text h ∙ sym (drop_all _ text (omega (arith, h, found, passed text)))

-- one word fewer is left to pass
pub rest_less : (words counter : ℕ) (rest : List ℕ) → counter < words
    → rest_after (words - (counter + 1)) (part_after 32 rest) ≡ rest_after (words - counter) rest
unfolding rest_after
rest_less words counter rest h =
    let one : words - counter ≡ suc (words - (counter + 1)) = omega arith in
    rw one
