-- The codes of a written trace are the trace, where each is below 16: the second digit of such a
-- code is the code.
-- Assumes nothing.
use Prim.Native.Nat.{ℕ, ◌/◌, ◌%◌, ◌<◌}
use native.Mathlib.Omega.{arith}
use Rattle.std.specs.Prelude.{unwrap_or}
use mathlib.Core.Path.{◌≡◌, refl, ap, ap₂, ◌∙◌}
use mathlib.Core.List.{List, ◌∷◌, flat_map}
use Rattle.foundation.specs.Lists.{Each, each_nil, each_cons}
use Rattle.hex_digits.specs.Digits.{digit_value, digit_byte, write_hex}
use Rattle.hex_digits.proofs.laws.DigitLaws.{digit_of_lem}
use Rattle.event_log_spec.specs.Lines.{codes_in}

second_digit : (code : ℕ) → code < 16 → digit_value (digit_byte (code / 1 % 16)) ≡ code
second_digit code small = ap (λ o. unwrap_or o 0) (digit_of_lem (code / 1 % 16) (omega arith)) ∙ omega arith

pub codes_written : {trace : List ℕ} → Each (λ (a : ℕ). a < 16) trace → codes_in (flat_map (write_hex 2) trace) ≡ trace
unfolding codes_in flat_map write_hex
codes_written each_nil = refl
codes_written (each_cons {x = a} small rest) = ap₂ ◌∷◌ (second_digit a small) (codes_written rest)
