-- The candidates from the input set at hand on end as all do from the first on. The measure is
-- their number.
-- Assumes nothing.
use Rattle.std.proofs.Common.{length}
use Rattle.event_log_spec.specs.Lines.{frames_of}
use Rattle.replay_spec.specs.Judgement.{verdict}
use Rattle.discovery.proofs.laws.InputsLeft.{inputs_from, InputsLeft}
use Rattle.discovery.proofs.search.search_inputs.Given as goal

abbrev pub invariant-loop-inputs : goal.invariant-loop-inputs
invariant-loop-inputs l =
    InputsLeft
    (record {
      verdict = verdict l.search.settings.threshold (frames_of l.search.log.text.now);
      budget = l.search.budget;
      candidates = inputs_from l.search.settings.activities l.search.settings.inputs l.outputs l.initial.inputs;
      run = l.initial.run;
    })
    l.search.settings.activities
    l.search.settings.inputs
    l.outputs
    l.inputs
    l.run

abbrev pub decreases-loop-inputs : goal.decreases-loop-inputs
decreases-loop-inputs l = length (inputs_from l.search.settings.activities l.search.settings.inputs l.outputs l.inputs)
