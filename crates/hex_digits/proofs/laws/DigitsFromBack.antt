-- A number's digits, written one after the other from the back of a slice: each is the remainder by
-- 16 of what is left of the number, which is then divided by 16. From where they stand to the back,
-- the slice holds the number's lowest digits, the highest first.
-- Assumes nothing.
use Prim.Native.Nat.{ℕ, suc, ◌+◌, ◌-◌, ◌/◌, ◌%◌, ◌^◌, ◌≤◌, ◌<◌}
use native.Mathlib.Nat.{div-div-eq-div-mul, div-one, pow-suc}
use native.Mathlib.Omega.{arith}
use mathlib.Core.Path.{◌≡◌, refl, sym, ap, ap₂, ◌∙◌}
use mathlib.Core.List.{List, ◌∷◌}
use lib.ListN.{length, drop, set, length-set}
use lib.Seq.{drop-length, drop-cons, get_or-set_same, drop-set-lt}
use Rattle.hex_digits.specs.Digits.{digit_byte, write_hex}

-- the lowest digits stand from an index on, and the rest is what is above them
pub record WrittenFrom (number : ℕ) (before text : List ℕ) (rest at : ℕ) : Type 0 where
  pub done : ℕ
  pub room : length text ≡ length before
  pub parts : at + done ≡ length before
  pub above : rest ≡ number / 16 ^ done
  pub digits : drop at text ≡ write_hex done number

module _ {number : ℕ} {before : List ℕ} where
  pub none_written : WrittenFrom number before before number (length before)
  unfolding write_hex
  none_written =
      record {
        done = 0;
        room = refl;
        parts = omega arith;
        above = sym (div-one number);
        digits = drop-length before;
      }

  module _ {text : List ℕ} {rest at : ℕ} (w : WrittenFrom number before text rest at) where
    -- one digit more
    pub one_written : 0 < at → WrittenFrom number before (set text (at - 1) (digit_byte (rest % 16))) (rest / 16) (at - 1)
    unfolding write_hex
    one_written front =
        let byte = digit_byte (rest % 16) in
        let inside : at - 1 < length text = omega (arith, w.room, w.parts) in
        let next : suc (at - 1) ≡ at = omega arith in
        record {
          done = suc w.done;
          room = length-set text (at - 1) byte ∙ w.room;
          parts = omega (arith, w.parts);
          above =
              ap (λ (n : ℕ). n / 16) w.above
              ∙ div-div-eq-div-mul number (16 ^ w.done) 16
              ∙ ap (◌/◌ number) (sym (pow-suc 16 w.done));
          digits =
              drop-cons (set text (at - 1) byte) (at - 1) 0 (rw (length-set text (at - 1) byte) inside)
              ∙ ap₂ ◌∷◌
              (get_or-set_same text (at - 1) byte 0 inside ∙ ap (λ (n : ℕ). digit_byte (n % 16)) w.above)
              (drop-set-lt (suc (at - 1)) text (at - 1) byte (omega arith) ∙ ap (λ (n : ℕ). drop n text) next ∙ w.digits);
        }

    -- the front is reached
    pub all_written : at ≤ 0 → text ≡ write_hex (length before) number
    all_written end =
        let front : at ≡ 0 = omega arith in
        let whole : w.done ≡ length before = omega (arith, w.parts) in
        ap (λ (n : ℕ). drop n text) (sym front) ∙ w.digits ∙ ap (λ (k : ℕ). write_hex k number) whole

pub ruleset digits_written = (none_written, one_written)
