-- One name for all definitions of this layer and of those below it: a proof by computation says
-- `unfolding opened`.
-- Assumes nothing.
use mathlib.Core.List.{flat_map}
use Rattle.places.specs.Sets.{codes, size, within, disjoint, union}
use Rattle.places.specs.Places.{word, place_of, through, below, place_under, place_fault, words_fault, words_refusal, lighter, non_overlapping, join}
use Rattle.places.specs.Order.{SetBefore, PlaceBefore}
use Rattle.places.specs.Candidates.{candidate_set, candidate, sets, candidates, added, extends, descends}
use Rattle.places.specs.Succession.{from, first_set, set_after, set_past, rows, candidates_from}
use Rattle.limits.proofs.Opened.{opened as opened_limits}

unfoldable pub opened : Unit {0}
unfolding flat_map codes size within disjoint union word place_of through below place_under place_fault words_fault words_refusal lighter non_overlapping join SetBefore PlaceBefore candidate_set candidate sets candidates added extends descends from first_set set_after set_past rows candidates_from opened_limits
opened = tt
