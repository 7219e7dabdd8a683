-- `report_lines::settings_frame::settings_in` meets its contract: the tests and the four numbers
-- decide as the frame is defined, and a number of two digits fits a byte, one of four 16 bits.
-- Assumes nothing.
use Rattle.std.specs.Prelude.{Some}
use Rattle.std.proofs.Common.{◌≡◌, ℕ, ◌+◌, ◌*◌, ◌^◌, ◌<◌, List, refl, sym, arith, take}
use Rattle.std.proofs.Math.ListN.{length-take}
use Rattle.hex_digits.specs.Digits.{number_in}
use Rattle.hex_digits.proofs.laws.NumberLaws.{number_below}
use Rattle.reporter_spec.specs.Program.{bound_digits, threshold_digits}
use Rattle.report_lines.proofs.laws.FrameLaws.{frame_short, frame_unended, number_missing, frame_read}
use Rattle.report_lines.proofs.settings_frame.settings_in.Goals as goal

-- a number of k digits
small : (k n : ℕ) (rest : List ℕ) → Some n ≡ number_in (take k rest) → n < 16 ^ k
small k n rest e = number_below (take k rest) n k (sym e) (omega (arith, length-take k rest))

pub returns-then-input-le-SETTINGS_DIGITS : goal.returns-then-input-le-SETTINGS_DIGITS
returns-then-input-le-SETTINGS_DIGITS c = sym (frame_short _ c.if-input-le-SETTINGS_DIGITS.true)

pub returns-then-input-ne-LINE_FEED : goal.returns-then-input-ne-LINE_FEED
returns-then-input-ne-LINE_FEED c = sym (frame_unended _ c.if-input-ne-LINE_FEED.true)

pub returns-in_err-read_hex : goal.returns-in_err-read_hex
returns-in_err-read_hex c =
    rw c.from_residual.ensures
    (sym (number_missing _ 0 bound_digits (2 * bound_digits + threshold_digits) refl (sym c.in_err-read_hex.ensures)))

pub returns-in_err-read_hex-2 : goal.returns-in_err-read_hex-2
returns-in_err-read_hex-2 c =
    rw c.from_residual-in_err-read_hex-2.ensures
    (sym (number_missing _ bound_digits bound_digits (bound_digits + threshold_digits) refl (sym c.in_err-read_hex-2.ensures)))

pub returns-in_err-read_hex-3 : goal.returns-in_err-read_hex-3
returns-in_err-read_hex-3 c =
    rw c.from_residual-in_err-read_hex-3.ensures
    (sym (number_missing _ (2 * bound_digits) bound_digits threshold_digits refl (sym c.in_err-read_hex-3.ensures)))

pub returns-in_err-read_hex-4 : goal.returns-in_err-read_hex-4
returns-in_err-read_hex-4 c =
    rw c.from_residual-in_err-read_hex-4.ensures
    (sym (number_missing _ (3 * bound_digits) threshold_digits 0 refl (sym c.in_err-read_hex-4.ensures)))

pub overflow_cast-result : goal.overflow_cast-result
overflow_cast-result c = omega (arith, small bound_digits _ _ c.in_ok-read_hex.ensures)

pub overflow_cast-result-2 : goal.overflow_cast-result-2
overflow_cast-result-2 c = omega (arith, small bound_digits _ _ c.in_ok-read_hex-2.ensures)

pub overflow_cast-result-3 : goal.overflow_cast-result-3
overflow_cast-result-3 c = omega (arith, small bound_digits _ _ c.in_ok-read_hex-3.ensures)

pub overflow_cast-result-4 : goal.overflow_cast-result-4
overflow_cast-result-4 c = omega (arith, small threshold_digits _ _ c.in_ok-read_hex-4.ensures)

pub returns : goal.returns
returns c =
    sym
    (frame_read
    _
    _
    c.if-input-ne-LINE_FEED.false
    (sym c.in_ok-read_hex.ensures)
    (sym c.in_ok-read_hex-2.ensures)
    (sym c.in_ok-read_hex-3.ensures)
    (sym c.in_ok-read_hex-4.ensures))
