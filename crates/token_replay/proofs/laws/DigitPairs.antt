-- The digits of a trace taken two by two: the second of a pair is the code of an event, and the
-- events behind it are those of the digits behind the pair.
-- Assumes nothing.
use Rattle.std.proofs.Common.{ℕ, List, [], ◌∷◌, ◌++◌, length, get_or, ◌≡◌, refl, arith}
use mathlib.Core.Bool.{true, and-eq-true_iff}
use Rattle.std.specs.List.{list_all}
use Rattle.hex_digits.specs.Digits.{is_digit, digit_value}
use Rattle.event_log_spec.specs.Lines.{codes_in}

pub record PairFirst (pair left : List ℕ) : Type 0 where
  pub codes : codes_in (pair ++ left) ≡ digit_value (get_or pair 1 0) ∷ codes_in left
  pub digit : is_digit (get_or pair 1 0) ≡ true
  pub known : list_all is_digit left ≡ true

pub pair_first : (pair left : List ℕ) → length pair ≡ 2 → list_all is_digit (pair ++ left) ≡ true → PairFirst pair left
unfolding codes_in
pair_first [] left two known = absurd (omega arith)
pair_first (d ∷ []) left two known = absurd (omega arith)
pair_first (d ∷ (digit ∷ [])) left two known =
    let first = (and-eq-true_iff (is_digit d) (list_all is_digit (digit ∷ left))).0 known in
    let second = (and-eq-true_iff (is_digit digit) (list_all is_digit left)).0 first.1 in
    record { codes = refl; digit = second.0; known = second.1 }
pair_first (d ∷ (digit ∷ (x ∷ xs))) left two known = absurd (omega arith)
