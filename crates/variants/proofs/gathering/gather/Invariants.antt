-- The words from the index on are gathered in their own place.
-- Assumes nothing.
use Rattle.event_log_spec.specs.Lines.{frames_of}
use Rattle.variants.proofs.laws.GatheringWords.{GatheredFrom}
use Rattle.variants.proofs.gathering.gather.Given as goal

abbrev pub invariant-loop-at : goal.invariant-loop-at
invariant-loop-at l =
    GatheredFrom (frames_of l.log.text.now) l.initial.words l.at l.first l.tally l.variant l.words
