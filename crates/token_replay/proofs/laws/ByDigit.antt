-- A set by digit: at the last five bits of a digit's byte it has what the set has at the digit's
-- value, since either part of the set is moved as a whole. So an event by its digit is the event by
-- its code.
-- Assumes nothing.
use Prim.Native.Nat.{ℕ, ◌+◌, ◌-◌, ◌/◌, ◌%◌, ◌^◌, ◌<◌}
use native.Mathlib.Omega.{arith}
use mathlib.Core.Path.{◌≡◌, ap, sym, ◌∙◌}
use mathlib.Core.Bool.{true}
use lib.Dec.{ltb}
use lib.Pow.{shr-shr, field, mod-mod-pow}
use borrow.Author.Tests.{ltb-true, ltb-false}
use Rattle.foundation.proofs.laws.Booleans.{by_test}
use Rattle.places.specs.declared.Place.{Place}
use Rattle.places.specs.Sets.{has}
use Rattle.hex_digits.specs.Digits.{is_digit, digit_value, digit_byte}
use Rattle.hex_digits.proofs.laws.DigitLaws.{digit_writes}
use Rattle.token_replay.specs.declared.Tokens.{Tokens}
use Rattle.token_replay.specs.Tokens.{by_digit, digit_sets, after_event, after_digit}

-- the bits of a number from k on, and its last k
has_from : (n k a : ℕ) → has (n / 2 ^ k) a ≡ has n (k + a)
has_from n k a = ap (λ (m : ℕ). m % 2) (shr-shr n k a)

has_last : (n k a : ℕ) → a < k → has (n % 2 ^ k) a ≡ has n a
has_last n k a small =
    let more = k - a - 1 in
    let whole : k ≡ more + 1 + a = omega arith in
    ap (λ (m : ℕ). has (n % 2 ^ m) a) whole ∙ ap (λ (m : ℕ). m % 2) (field n (more + 1) a) ∙ mod-mod-pow (n / 2 ^ a) more 1

module _ (s : ℕ) where
  -- of the digits 0 to 9, and of A to F
  numeral_has : (v : ℕ) → v < 10 → has (by_digit s) (16 + v) ≡ has s v
  numeral_has v small =
      let moved : by_digit s / 2 ^ 16 ≡ s % 2 ^ 10 = omega arith in
      sym (has_from (by_digit s) 16 v) ∙ ap (λ (m : ℕ). has m v) moved ∙ has_last s 10 v small

  letter_has : (v : ℕ) → v < 6 → has (by_digit s) (1 + v) ≡ has s (10 + v)
  letter_has v small =
      let moved : by_digit s % 2 ^ 7 / 2 ^ 1 ≡ s / 2 ^ 10 % 2 ^ 6 = omega arith in
      sym (has_last (by_digit s) 7 (1 + v) (omega arith))
      ∙ sym (has_from (by_digit s % 2 ^ 7) 1 v)
      ∙ ap (λ (m : ℕ). has m v) moved
      ∙ has_last (s / 2 ^ 10) 6 v small
      ∙ has_from s 10 v

  value_has : (v : ℕ) → v < 16 → has (by_digit s) (digit_byte v % 32) ≡ has s v
  unfolding digit_byte
  value_has v small =
      by_test
      (ltb v 10)
      (λ t. let h = ltb-true v 10 t in
      let last : (48 + v) % 32 ≡ 16 + v = omega arith in
      rw (t, last) (numeral_has v h))
      (λ f. let h = ltb-false v 10 f in
      let last : (55 + v) % 32 ≡ 1 + (v - 10) = omega arith in
      let code : 10 + (v - 10) ≡ v = omega arith in
      rw (f, last) (letter_has (v - 10) (omega arith) ∙ ap (has s) code))

  digit_has : (digit : ℕ) → is_digit digit ≡ true → has (by_digit s) (digit % 32) ≡ has s (digit_value digit)
  digit_has digit e = let w = digit_writes digit e in rw w.back at (value_has (digit_value digit) w.small)

pub event_by_digit : (p : Place) (t : Tokens) (digit : ℕ) → is_digit digit ≡ true
    → after_digit (digit_sets p) t digit ≡ after_event p t (digit_value digit)
unfolding after_digit after_event
event_by_digit p t digit e = rw (digit_has p.outputs digit e, digit_has p.inputs digit e)
