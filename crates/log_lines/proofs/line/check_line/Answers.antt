-- `log_lines::line::check_line` meets its contract where one of its last two checks fails.
-- Assumes nothing.
use Rattle.std.proofs.Common.{rules, sym}
use Rattle.std.proofs.lemmas.Result.{err_from_is_err_and}
use Rattle.log_lines.proofs.laws.LineShape.{unknown_line, misplaced_line}
use Rattle.log_lines.proofs.line.check_line.Goals as goal

pub returns-in_err-unless-4 : goal.returns-in_err-unless-4
returns-in_err-unless-4 c =
    let p = err_from_is_err_and c.from_residual-in_err-unless-4.result c.from_residual-in_err-unless-4.ensures.1 in
    rw (p.1, p.2, c.in_err-unless-4.ensures.cases.1) (sym (search (rules, unknown_line)))

pub returns-in_err-unless-5 : goal.returns-in_err-unless-5
returns-in_err-unless-5 c =
    let p = err_from_is_err_and c.from_residual-in_err-unless-5.result c.from_residual-in_err-unless-5.ensures.1 in
    rw (p.1, p.2, c.in_err-unless-5.ensures.cases.1) (sym (search (rules, misplaced_line)))
