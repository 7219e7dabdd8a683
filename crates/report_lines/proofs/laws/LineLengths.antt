-- The lines that placelist writes after a listing: each is that of three numbers, and has the digits
-- of each and a line feed.
-- Assumes nothing.
use Prim.Native.Nat.{ℕ, ◌+◌}
use native.Mathlib.Omega.{arith}
use mathlib.Core.Path.{◌≡◌}
use mathlib.Core.List.{[], ◌∷◌, ◌++◌, append-nil, append_assoc}
use lib.ListN.{length, length-append}
use Rattle.limits.specs.declared.Refusal.{Refusal}
use Rattle.limits.specs.Refusals.{number, value}
use Rattle.hex_digits.proofs.laws.DigitLaws.{length_write}
use Rattle.discovery_spec.specs.declared.Run.{Run}
use Rattle.discovery_spec.specs.Search.{end_number}
use Rattle.reporter_spec.specs.Program.{end_digits, value_digits, refusal_line, refusal_bytes, result_bytes}
use Rattle.report_lines.specs.ProgramLines.{field_text, fields_line, run_line}
use Rattle.report_lines.proofs.laws.LineParts.{length_fields}

pub length_three : (first second third : ℕ × ℕ) → length (fields_line (first ∷ second ∷ third ∷ [])) ≡ first.1 + second.1 + third.1 + 1
length_three first second third =
    let text = field_text second ++ (field_text third ++ []) in
    omega (
      arith,
      length_fields (first ∷ second ∷ third ∷ []),
      length-append (field_text first) text,
      length-append (field_text second) (field_text third ++ []),
      length-append (field_text third) [],
      length_write first.1 first.0,
      length_write second.1 second.0,
      length_write third.1 third.0,
    )

pub refusal_fields : (r : Refusal) → fields_line ((0xFF, end_digits) ∷ (number r, end_digits) ∷ (value r, value_digits) ∷ []) ≡ refusal_line r
unfolding fields_line refusal_line
refusal_fields r = simp (append_assoc, append-nil)

pub run_fields : (x : Run) → fields_line ((end_number x.end, end_digits) ∷ (x.replays, value_digits) ∷ (x.visits, value_digits) ∷ []) ≡ run_line x
unfolding fields_line run_line
run_fields x = simp (append_assoc, append-nil)

pub length_refusal : (r : Refusal) → length (refusal_line r) ≡ refusal_bytes
unfolding refusal_line
length_refusal r = simp (length-append, length_write)

pub length_run : (x : Run) → length (run_line x) ≡ result_bytes
unfolding run_line
length_run x = simp (length-append, length_write)
