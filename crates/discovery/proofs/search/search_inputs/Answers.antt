-- `discovery::search::search_inputs` meets its contract: a candidate's turn takes it, and where it
-- prunes its descendants too; a turn that stops the run, or the last one, makes the whole run.
-- Assumes nothing.
use Rattle.std.proofs.Common.{◌≡◌, Err, rules}
use Rattle.discovery.proofs.laws.InputsLeft.{inputs_start, inputs_done, this_set, one_more, fewer_left, inputs_stop, inputs_on}
use Rattle.discovery.proofs.search.search_inputs.Goals as goal

pub visit-requires : goal.visit-requires
visit-requires c = one_more c.requires.settings.few_activities c.loop-inputs.invariant c.loop-inputs-test.true

pub returns-in_err-descendants : goal.returns-in_err-descendants
returns-in_err-descendants c =
    let few = c.requires.settings.few_activities in
    let same : c.from_residual.result ≡ Err c.in_err-descendants.field-0.0 = search rules in
    rw same (inputs_stop few c.loop-inputs.invariant c.loop-inputs-test.true c.in_err-descendants.ensures)

pub loop-inputs-smaller : goal.loop-inputs-smaller
loop-inputs-smaller c =
    let few = c.requires.settings.few_activities in
    rw c.next_inputs-inputs.ensures (fewer_left few c.loop-inputs.invariant c.loop-inputs-test.true c.in_ok-descendants.ensures)

pub loop-inputs-preserved : goal.loop-inputs-preserved
loop-inputs-preserved c =
    let few = c.requires.settings.few_activities in
    rw c.next_inputs-inputs.ensures (inputs_on few c.loop-inputs.invariant c.loop-inputs-test.true c.in_ok-descendants.ensures)

pub returns : goal.returns
returns c = inputs_done c.loop-inputs.invariant c.loop-inputs-test.false
