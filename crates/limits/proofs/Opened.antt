-- One name for all definitions of this layer and of those below it: a proof by computation says
-- `unfolding opened`.
-- Assumes nothing.
use Rattle.limits.specs.Refusals.{number, value, first_refusal, number_given, value_given, answer_number, answer_value}
use Rattle.limits.specs.Settings.{bound_in_range, size_in_range, threshold_in_range, bound_fault, bound_and_threshold_fault, settings_in_range, settings_fault}

unfoldable pub opened : Unit {0}
unfolding number value first_refusal number_given value_given answer_number answer_value bound_in_range size_in_range threshold_in_range bound_fault bound_and_threshold_fault settings_in_range settings_fault
opened = tt
