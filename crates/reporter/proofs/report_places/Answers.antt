-- `reporter::report_places` meets its contract: the test of the room decides between the refusal
-- and what placelist writes.
-- Assumes nothing.
use Rattle.std.proofs.Common.{refl, ap, Ok, arith}
use Rattle.std.proofs.lemmas.Result.{err_from_is_err_and}
use borrow.Author.Tests.{lt-ltb, le-ltb, leb-true, leb-false}
use Rattle.limits.specs.Refusals.{number_given, value_given, answer_number, answer_value}
use Rattle.reporter.specs.Reporting.{most_output, reporting_refusal, reported, output_after}
use Rattle.reporter.proofs.laws.OutputRoom.{output_fits}
use Rattle.reporter.proofs.report_places.Goals as goal

pub returns-in_err-unless : goal.returns-in_err-unless
unfolding reporting_refusal reported output_after number_given value_given answer_number answer_value
returns-in_err-unless c =
    let answer = err_from_is_err_and c.from_residual.result c.from_residual.ensures.1 in
    let short = c.in_err-unless.ensures.cases in
    rw (answer.1, answer.2, short.1, lt-ltb _ most_output (leb-false most_output _ short.0)) (record {
      answer = refl;
      output = refl;
      within = tt;
      numbered = record { number_is = refl; value_is = refl };
    })

pub returns : goal.returns
unfolding reporting_refusal reported output_after number_given value_given answer_number answer_value
returns c =
    rw (le-ltb _ most_output (leb-true most_output _ c.in_ok-unless.ensures.cases)) (record {
      answer = ap Ok c.report_input.ensures.count;
      output = c.report_input.ensures.text;
      within = omega (
        arith,
        c.report_input.ensures.count,
        output_fits c.args.input.now,
        leb-true most_output _ c.in_ok-unless.ensures.cases,
      );
      numbered = record { number_is = refl; value_is = refl };
    })
