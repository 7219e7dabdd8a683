-- One name for all definitions of this layer and of those below it: a proof by computation says
-- `unfolding opened`.
-- Assumes nothing.
use Rattle.discovery_spec.proofs.Opened.{opened as opened_search}
use Rattle.reduction_spec.proofs.Opened.{opened as opened_redundancy}
use Rattle.listing.specs.Listing.{found_in, listing_of, refusal_of, listing_number, listing_value, kept_of, searched_with, rejected_left_with, found_left_with, kept_left_with, listing_with}

unfoldable pub opened : Unit {0}
unfolding found_in listing_of refusal_of listing_number listing_value kept_of searched_with rejected_left_with found_left_with kept_left_with listing_with opened_search opened_redundancy
opened = tt
