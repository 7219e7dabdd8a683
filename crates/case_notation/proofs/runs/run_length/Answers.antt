-- `case_notation::runs::run_length` meets its contract: the first chunk of the words is the run.
-- Assumes nothing.
use Rattle.std.proofs.Common.{arith, sym, ap, ◌∙◌, subst, length, length-append}
use Rattle.std.specs.Fn.{ComputesOnPairs}
use Rattle.case_notation.specs.Runs.{run_length}
use Rattle.case_notation.proofs.laws.RunLengths.{run_is, no_run}
use Rattle.case_notation.proofs.runs.run_length.Goals as goal

pub returns-in-Some-clause-run : goal.returns-in-Some-clause-run
returns-in-Some-clause-run g c = λ test computes.
    let first = c.in-Some.ensures.steps in
    let parted = first.2 test (subst (ComputesOnPairs g.F.FnMut test) (sym c.chunk_by.ensures.closure) computes) in
    run_is test _ _ first.1 (omega (arith, ap length first.0, length-append c.in-Some.first.now c.next.new.self.rest.now)) parted.1
    ∙ ap (run_length test) c.chunk_by.ensures.rest

pub returns-clause-run : goal.returns-clause-run
returns-clause-run g c = λ test computes. no_run test c.args.words.now (ap length (sym c.chunk_by.ensures.rest) ∙ c.in-None.ensures.steps.0)
