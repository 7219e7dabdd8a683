-- One name for all definitions of this layer and of those below it: a proof by computation says
-- `unfolding opened`.
-- Assumes nothing.
use lib.Count.{ones}
use Rattle.reduction_spec.specs.Unions.{join_all, same_place, compose, is_union}
use Rattle.reduction_spec.specs.Cover.{usable, parts_of, choices, many_inputs, few_inputs, balanced}
use Rattle.reduction_spec.specs.Reduction.{redundant, reduced_words, reduction_refusal, reduced, reduced_after}
use Rattle.places.proofs.Opened.{opened as opened_places}

unfoldable pub opened : Unit {0}
unfolding join_all same_place compose is_union usable parts_of choices many_inputs few_inputs balanced ones redundant reduced_words reduction_refusal reduced reduced_after opened_places
opened = tt
