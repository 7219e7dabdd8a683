-- Two digits for each activity: reading them back gives the activities, and writing what an even
-- number of digits stands for gives the digits. Each goes pair by pair, by the laws of one number.
-- Assumes nothing.
use Prim.Native.Nat.{ℕ, ◌*◌, ◌/◌, ◌%◌, ◌<◌}
use native.Mathlib.Omega.{arith}
use mathlib.Core.Path.{◌≡◌, refl, ap₂}
use mathlib.Core.List.{List, [], ◌∷◌, ◌++◌, flat_map}
use lib.ListN.{length}
use Rattle.foundation.specs.Lists.{Each, each_nil, each_cons}
use Rattle.foundation.proofs.laws.Lists.{each_head, each_tail}
use Rattle.foundation.proofs.laws.Each.{each_append}
use Rattle.hex_digits.specs.Digits.{write_hex}
use Rattle.event_log_spec.specs.Lines.{read_pairs}
use Rattle.hex_digits.proofs.laws.DigitLaws.{EachDigit, read_write, write_read, write_digits}

pub read_pairs_lem : {trace : List ℕ} → Each (λ (a : ℕ). a < 256) trace → read_pairs (flat_map (write_hex 2) trace) ≡ trace
unfolding read_pairs flat_map write_hex
read_pairs_lem each_nil = refl
read_pairs_lem (each_cons {x = a} small rest) = ap₂ ◌∷◌ (read_write 2 a small) (read_pairs_lem rest)

pub write_pairs : (bytes : List ℕ) → length bytes % 2 ≡ 0 → EachDigit bytes → flat_map (write_hex 2) (read_pairs bytes) ≡ bytes
unfolding read_pairs flat_map
write_pairs [] even digits = refl
write_pairs (d ∷ []) even digits = absurd (omega arith)
write_pairs (d ∷ (e ∷ bytes)) even digits =
    ap₂ ◌++◌
    (write_read (d ∷ e ∷ []) (each_cons (each_head digits) (each_cons (each_head (each_tail digits)) each_nil)))
    (write_pairs bytes (omega arith) (each_tail (each_tail digits)))

pub length_pairs : (trace : List ℕ) → length (flat_map (write_hex 2) trace) ≡ 2 * length trace
unfolding flat_map write_hex
length_pairs [] = refl
length_pairs (a ∷ trace) = omega (arith, length_pairs trace)

pub pairs_digits : (trace : List ℕ) → EachDigit (flat_map (write_hex 2) trace)
unfolding flat_map
pairs_digits [] = each_nil
pairs_digits (a ∷ trace) = each_append (write_digits 2 a) (pairs_digits trace)

pub length_read_pairs : (bytes : List ℕ) → length (read_pairs bytes) ≡ length bytes / 2
unfolding read_pairs
length_read_pairs [] = refl
length_read_pairs (d ∷ []) = refl
length_read_pairs (d ∷ (e ∷ bytes)) = omega (arith, length_read_pairs bytes)
