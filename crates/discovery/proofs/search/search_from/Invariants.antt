-- The candidates from the ones at hand on end as all do from the first on. The measure is the
-- number of output sets.
-- Assumes nothing.
use Rattle.std.proofs.Common.{length}
use Rattle.places.specs.Candidates.{sets}
use Rattle.places.specs.Succession.{from}
use Rattle.event_log_spec.specs.Lines.{frames_of}
use Rattle.replay_spec.specs.Judgement.{verdict}
use Rattle.discovery.proofs.laws.OutputsLeft.{places_from, OutputsLeft}
use Rattle.discovery.proofs.search.search_from.Given as goal

abbrev pub invariant-loop-outputs : goal.invariant-loop-outputs
invariant-loop-outputs l =
    OutputsLeft
    (record {
      verdict = verdict l.search.settings.threshold (frames_of l.search.log.text.now);
      budget = l.search.budget;
      candidates = places_from l.settings.activities l.settings.inputs l.settings.outputs l.initial.inputs l.initial.outputs;
      run = l.initial.run;
    })
    l.settings.activities
    l.settings.inputs
    l.settings.outputs
    l.inputs
    l.outputs
    l.run

abbrev pub decreases-loop-outputs : goal.decreases-loop-outputs
decreases-loop-outputs l = length (from l.outputs (sets l.settings.activities l.settings.outputs))
