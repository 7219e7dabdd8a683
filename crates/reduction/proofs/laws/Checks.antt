-- What the proof of `reduction::reduce` takes: the laws of the checks of a list, that a list which
-- passes them is one of places for which there is room, and the definitions that an answer is made
-- of.
-- Assumes nothing.
use Rattle.limits.specs.Refusals.{number_given, value_given, answer_number, answer_value}
use Rattle.places.proofs.laws.ListFaults.{list_checks}
use Rattle.reduction_spec.specs.Reduction.{reduction_refusal, reduced, reduced_after}
use Rattle.reduction_spec.proofs.laws.Reducing.{checked}

-- what the checks need
pub ruleset call_checks = (checked, list_checks)

-- what an answer is made of
unfoldable pub answer_opened : Unit {0}
unfolding reduction_refusal reduced reduced_after number_given value_given answer_number answer_value
answer_opened = tt
