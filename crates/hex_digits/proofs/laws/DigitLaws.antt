-- Digits: a byte is a digit exactly when it writes a value below 16, and reading and writing
-- numbers in digits undo each other. The numbers go by the number of digits: the first digit is the
-- quotient by the power of 16 that the others stay below.
-- Assumes nothing.
use Rattle.std.specs.Prelude.{Option, None, Some, is_some, unwrap_or}
use Prim.Native.Nat.{ℕ, zero, suc, ◌+◌, ◌-◌, ◌*◌, ◌/◌, ◌%◌, ◌^◌, ◌≤◌, ◌<◌}
use native.Mathlib.Nat.{add-zero, add_comm, mul_comm, mul_assoc, mul-le-mul_right, pow-suc, one-le-pow}
use native.Mathlib.Nat.{add-mul-div_right, mul-add-div_right, div-eq_of_lt, div-lt_iff_lt-mul}
use native.Mathlib.Nat.{div-add-mod', mod-add-div', mod-lt, mod-eq_of_lt, add-mul-mod_self_right}
use native.Mathlib.Omega.{arith}
use mathlib.Core.Path.{◌≡◌, refl, sym, ap, ◌∙◌}
use mathlib.Core.Bool.{true, false, ◌&&◌, false≢true, and-eq-true_iff}
use mathlib.Core.List.{List, [], ◌∷◌}
use borrow.Author.Tests.{lt-ltb, le-ltb, le-leb, lt-leb, leb-true, ltb-true, ltb-false}
use lib.Dec.{leb, ltb, lit<}
use lib.ListN.{length}
use Rattle.foundation.specs.Lists.{Each, each_nil, each_cons}
use Rattle.foundation.proofs.laws.Booleans.{by_test}
use Rattle.foundation.proofs.laws.Lists.{each_head, each_tail}
use Rattle.hex_digits.specs.Digits.{digit_of, is_digit, digit_value, read_hex, digit_byte, write_hex}

-- the byte is the one that writes its value, which is below 16
pub record Writes (byte : ℕ) : Type 0 where
  pub small : digit_value byte < 16
  pub back : digit_byte (digit_value byte) ≡ byte

between : (a b n : ℕ) → leb a n && leb n b ≡ true → (a ≤ n) × (n ≤ b)
between a b n e = let t = (and-eq-true_iff (leb a n) (leb n b)).0 e in (leb-true a n t.0, leb-true n b t.1)

writes : (byte v : ℕ) → digit_of byte ≡ Some v → v < 16 → digit_byte v ≡ byte → Writes byte
writes byte v e small back = record { small = rw e small; back = rw e back }

-- 0 to 9
numeral_writes : (byte : ℕ) → leb 48 byte && leb byte 57 ≡ true → Writes byte
unfolding digit_of digit_byte
numeral_writes byte t =
    let r = between 48 57 byte t in
    writes byte (byte - 48) (rw t) (omega arith) (rw (lt-ltb (byte - 48) 10 (omega arith)) (omega arith))

-- A to F
letter_writes : (byte : ℕ) → leb 48 byte && leb byte 57 ≡ false → leb 65 byte && leb byte 70 ≡ true → Writes byte
unfolding digit_of digit_byte
letter_writes byte f t =
    let r = between 65 70 byte t in
    writes byte (byte - 55) (rw (f, t)) (omega arith) (rw (le-ltb (byte - 55) 10 (omega arith)) (omega arith))

pub digit_writes : (byte : ℕ) → is_digit byte ≡ true → Writes byte
unfolding is_digit digit_of
digit_writes byte e =
    by_test
    (leb 48 byte && leb byte 57)
    (numeral_writes byte)
    (λ f. by_test (leb 65 byte && leb byte 70) (letter_writes byte f) (λ g. absurd (false≢true (rw (f, g) at e))))

numeral_of : (v : ℕ) → v < 10 → digit_of (48 + v) ≡ Some v
unfolding digit_of
numeral_of v small = rw (le-leb 48 (48 + v) (omega arith), le-leb (48 + v) 57 (omega arith)) (ap Some (omega arith))

letter_of : (v : ℕ) → 10 ≤ v → v < 16 → digit_of (55 + v) ≡ Some v
unfolding digit_of
letter_of v large small =
    rw (
      le-leb 48 (55 + v) (omega arith),
      lt-leb (55 + v) 57 (omega arith),
      le-leb 65 (55 + v) (omega arith),
      le-leb (55 + v) 70 (omega arith),
    ) (ap Some (omega arith))

pub digit_of_lem : (v : ℕ) → v < 16 → digit_of (digit_byte v) ≡ Some v
unfolding digit_byte
digit_of_lem v small =
    by_test
    (ltb v 10)
    (λ t. rw t (numeral_of v (ltb-true v 10 t)))
    (λ f. rw f (letter_of v (ltb-false v 10 f) small))

pub byte_is_digit : (v : ℕ) → v < 16 → is_digit (digit_byte v) ≡ true
unfolding is_digit
byte_is_digit v small = rw (digit_of_lem v small)

-- each byte is a digit
abbrev pub EachDigit : List ℕ → Type 0
EachDigit bytes = Each (λ (byte : ℕ). is_digit byte ≡ true) bytes

-- a byte that is no digit counts as 0
pub value_small : (byte : ℕ) → digit_value byte < 16
unfolding is_digit
value_small byte = go (digit_of byte) refl
  where
    go : (d : Option ℕ) → digit_of byte ≡ d → unwrap_or d 0 < 16
    go (Some v) e = rw e at (digit_writes byte (ap is_some e)).small
    go None e = lit< tt

pub digit_below : (byte v : ℕ) → digit_of byte ≡ Some v → v < 16
digit_below byte v e = rw e at (value_small byte)

power_positive : (k : ℕ) → 0 < 16 ^ k
power_positive k = one-le-pow k 16 (lit< tt)

pub read_small : (bytes : List ℕ) → read_hex bytes < 16 ^ length bytes
unfolding read_hex
read_small [] = lit< tt
read_small (byte ∷ bytes) =
    rw (pow-suc 16 (length bytes)) (omega (arith, read_small bytes, mul-le-mul_right (16 ^ length bytes) (value_small byte)))

pub length_write : (k n : ℕ) → length (write_hex k n) ≡ k
unfolding write_hex
length_write zero n = refl
length_write (suc k) n = ap suc (length_write k n)

pub write_digits : (k n : ℕ) → EachDigit (write_hex k n)
unfolding write_hex
write_digits zero n = each_nil
write_digits (suc k) n = each_cons (byte_is_digit (n / 16 ^ k % 16) (omega arith)) (write_digits k n)

-- what stands above the lowest k digits does not count
write_above : (k c n : ℕ) → write_hex k (n + c * 16 ^ k) ≡ write_hex k n
unfolding write_hex
write_above zero c n = refl
write_above (suc k) c n =
    rw (
      pow-suc 16 k,
      mul_comm (16 ^ k) 16,
      ← mul_assoc c 16 (16 ^ k),
      add-mul-div_right n (c * 16) (power_positive k),
      write_above k (c * 16) n,
      add-mul-mod_self_right,
    )

write_remainder : (k n : ℕ) → write_hex k n ≡ write_hex k (n % 16 ^ k)
write_remainder k n = ap (write_hex k) (sym (mod-add-div' n (16 ^ k))) ∙ write_above k (n / 16 ^ k) (n % 16 ^ k)

pub read_write : (k n : ℕ) → n < 16 ^ k → read_hex (write_hex k n) ≡ n
unfolding read_hex write_hex
read_write zero n small = omega arith
read_write (suc k) n small =
    let P = 16 ^ k in
    let few : n / P < 16 = (div-lt_iff_lt-mul (power_positive k)).1 (rw (pow-suc 16 k, mul_comm P 16) at small) in
    let rest = ap read_hex (write_remainder k n) ∙ read_write k (n % P) (mod-lt n (power_positive k)) in
    rw (mod-eq_of_lt few, digit_of_lem (n / P) few, length_write k n, rest) (div-add-mod' n P)

-- the first digit does not change the others
write_rest : (byte : ℕ) (bytes : List ℕ) → write_hex (length bytes) (read_hex (byte ∷ bytes)) ≡ write_hex (length bytes) (read_hex bytes)
unfolding read_hex
write_rest byte bytes =
    let v = digit_value byte in
    rw (add_comm (v * 16 ^ length bytes) (read_hex bytes)) (write_above (length bytes) v (read_hex bytes))

pub write_read : (bytes : List ℕ) → EachDigit bytes → write_hex (length bytes) (read_hex bytes) ≡ bytes
unfolding read_hex write_hex
write_read [] digits = refl
write_read (byte ∷ bytes) digits =
    let v = digit_value byte in
    let first = digit_writes byte (each_head digits) in
    rw (
      write_rest byte bytes,
      write_read bytes (each_tail digits),
      mul-add-div_right (power_positive (length bytes)) v (read_hex bytes),
      div-eq_of_lt (read_small bytes),
      add-zero v,
      mod-eq_of_lt first.small,
      first.back,
    )
