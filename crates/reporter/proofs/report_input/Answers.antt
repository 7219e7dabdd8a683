-- `reporter::report_input` meets its contract: an input that is too long is refused first, then one
-- without a settings frame, and else the log after the frame decides.
-- Assumes nothing.
use Rattle.std.specs.Prelude.{Some}
use Rattle.std.proofs.Common.{ℕ, ◌+◌, ◌-◌, List, length, take, drop, sym, ap, ap₂, ◌≡◌, ◌≤◌, ◌∙◌, arith, length-drop}
use Rattle.std.proofs.Math.Seq.{take_all}
use Rattle.foundation.specs.Buffers.{overwrite}
use Rattle.limits.specs.declared.Settings.{Settings}
use Rattle.reporter_spec.specs.Program.{most_input, settings_digits, log_in, placelist}
use Rattle.report_lines.specs.ProgramLines.{settings_frame_in}
use Rattle.reporter.specs.Reporting.{log_report}
use Rattle.report_lines.proofs.laws.FrameLaws.{frame_long, read_settings, read_malformed}
use Rattle.reporter.proofs.laws.OutputRoom.{frame_malformed, log_decides}
use Rattle.reporter.proofs.report_input.Goals as goal

-- the log is what follows the frame
log_after : (input : List ℕ) (s : Settings) → length input ≤ most_input → settings_frame_in input ≡ Some s
    → let bytes = settings_digits + 1 in
    log_report s (take (length input - bytes) (drop bytes input)) ≡ placelist input
unfolding log_in
log_after input s short framed =
    let bytes = settings_digits + 1 in
    let rest = take_all (length input - bytes) (drop bytes input) (omega (arith, length-drop bytes input)) in
    let read = read_settings input s framed in
    ap₂ log_report (sym read.1) rest ∙ sym (log_decides input short read.0)

-- the log starts inside the input, or at its end
pub slice_bounds-report_log-count : goal.slice_bounds-report_log-count
slice_bounds-report_log-count c = omega (arith, frame_long c.args.input.now _ (sym c.in-Some.ensures))

pub slice_bounds-report_log-start : goal.slice_bounds-report_log-start
slice_bounds-report_log-start c = omega (arith, frame_long c.args.input.now _ (sym c.in-Some.ensures))

pub returns-in-None : goal.returns-in-None
returns-in-None c =
    let input = c.args.input.now in
    rw (frame_malformed input (omega arith) (read_malformed input (sym c.in-None.ensures))) c.write_refusal-in-None.ensures

pub returns-in-Some : goal.returns-in-Some
returns-in-Some c =
    let whole = log_after c.args.input.now _ (omega arith) (sym c.in-Some.ensures) in
    record {
      count = c.report_log.ensures.count ∙ ap length whole;
      text = c.report_log.ensures.text ∙ ap (λ (text : List ℕ). overwrite text c.args.output.now) whole;
    }
