-- `discovery::search::search_from` meets its contract: a turn takes the candidates of one output
-- set; one that stops the run, or the last one, makes the whole run.
-- Assumes nothing.
use Rattle.std.proofs.Common.{◌≡◌, Err, rules}
use mathlib.Core.Logic.{inr}
use Rattle.limits.specs.declared.Settings.{Settings}
use Rattle.discovery.specs.Searching.{Searchable}
use Rattle.places.specs.Succession.{candidates_from}
use Rattle.discovery.proofs.laws.Onward.{reached_start}
use Rattle.discovery.proofs.laws.OutputsLeft.{Ranges, outputs_done, this_row, row_countable, fewer_rows, outputs_stop, outputs_on}
use Rattle.discovery.proofs.search.search_from.Goals as goal

-- what is known of the settings
ranges : (s : Settings) → Searchable s → Ranges s.activities s.inputs
ranges s known = record { few = known.few_activities; some_codes = known.some_activities; some_inputs = known.some_inputs }

pub loop-outputs-init : goal.loop-outputs-init
unfolding candidates_from
loop-outputs-init c =
    record { inputs = c.requires.inputs; outputs = inr c.requires.outputs; reached = reached_start _; countable = c.requires.countable }

pub search_inputs-requires : goal.search_inputs-requires
search_inputs-requires c =
    let at = c.loop-outputs.invariant in
    record { settings = c.requires.settings; inputs = at.inputs; countable = row_countable (ranges _ c.requires.settings) at c.loop-outputs-test.true }

pub returns-in_err-search_inputs-clause-carried : goal.returns-in_err-search_inputs-clause-carried
unfolding candidates_from
returns-in_err-search_inputs-clause-carried c =
    let same : c.from_residual.result ≡ Err c.in_err-search_inputs.field-0.0 = search rules in
    rw same (outputs_stop (ranges _ c.requires.settings) c.loop-outputs.invariant c.loop-outputs-test.true c.in_err-search_inputs.ensures)

pub loop-outputs-smaller : goal.loop-outputs-smaller
loop-outputs-smaller c =
    rw c.set_after-outputs.ensures (fewer_rows (ranges _ c.requires.settings) c.loop-outputs.invariant c.loop-outputs-test.true)

pub loop-outputs-preserved : goal.loop-outputs-preserved
loop-outputs-preserved c =
    rw c.set_after-outputs.ensures
    (outputs_on (ranges _ c.requires.settings) c.loop-outputs.invariant c.loop-outputs-test.true c.in_ok-search_inputs.ensures)

pub returns-clause-carried : goal.returns-clause-carried
unfolding candidates_from
returns-clause-carried c = outputs_done c.loop-outputs.invariant c.loop-outputs-test.false
