-- What a caller sees of a run that is not refused. The answer carries the run, complete or not, and
-- the list begins with the words that the run found; if it is complete, the answer and the second
-- buffer are what the reduction of those words answers and leaves. All of this is in the
-- definitions: of their cases one is left once nothing is refused.
-- Assumes nothing.
use Rattle.std.specs.Prelude.{Option, None, Some, Ok}
use Prim.Native.Nat.{ℕ}
use mathlib.Core.Path.{◌≡◌, refl}
use mathlib.Core.List.{List}
use lib.ListN.{length}
use Rattle.foundation.proofs.laws.Booleans.{by_test, impossible}
use Rattle.foundation.proofs.laws.Buffers.{take_overwritten}
use Rattle.limits.specs.declared.Refusal.{Refusal}
use Rattle.limits.specs.declared.Settings.{Settings}
use Rattle.limits.specs.Refusals.{answered as answered_by}
use Rattle.discovery_spec.specs.declared.Run.{Run}
use Rattle.discovery_spec.specs.Search.{Capacity, is_completed}
use Rattle.discovery_spec.specs.Discovery.{run, summary, run_refusal, discovered_with, capacity_of, found_after_with}
use Rattle.discovery_spec.specs.TwoRuns.{found_by, AtLeast}
use Rattle.discovery_spec.proofs.laws.Ends.{end_completed}
use Rattle.reduction_spec.specs.Reduction.{reduced, reduced_after}
use Rattle.listing.specs.declared.Listing.TheVariants.{Complete}
use Rattle.listing.specs.Listing.{Resources, found_in, listing_of, kept_of, searched_with, found_left, found_left_with, kept_left, kept_left_with, listing, listing_with}
use Rattle.assurance_spec.specs.Demand3.{run_of, Completed, AtLeastAsLarge}

-- the capacity of a run that is given these buffers and this budget
abbrev pub room_of : Resources → Capacity
room_of resources = capacity_of resources.rejected resources.found resources.budget

pub at_least : (first second : Resources) → AtLeastAsLarge first second → AtLeast (room_of first) (room_of second)
unfolding capacity_of
at_least first second more = record { rejected = more.rejected; found = more.found; budget = more.budget }

-- the answer to a search that ran carries its run, complete or not
run_carried : (x : Run) (found : List ℕ) (room : ℕ) → run_of (listing_of (Ok x) found room) ≡ Some x
unfolding run_of listing_of
run_carried x found room = by_test (is_completed x.end) (λ e. rw e) (λ e. rw e)

-- so a search whose answer carries a run was not refused, and the run is its own
run_own : (o : Option Refusal) (x r : Run) (found : List ℕ) (room : ℕ) → run_of (listing_of (answered_by o x) found room) ≡ Some r
    → (o ≡ None) × (r ≡ x)
unfolding run_of listing_of
run_own None x r found room e = (refl, cc (run_carried x found room))
run_own (Some refusal) x r found room e = impossible (cc)

module _ (s : Settings) (text : List ℕ) (resources : Resources) where
  -- the run, and the words that the caller sees listed
  abbrev pub made_run : Run
  made_run = summary (run s text (room_of resources))

  abbrev pub listed_words : List ℕ
  listed_words = found_in made_run (found_left s text resources)

  pub answered : (r : Run) → run_of (listing s text resources) ≡ Some r → (run_refusal s text ≡ None) × (r ≡ made_run)
  unfolding listing_with searched_with discovered_with
  answered r = run_own (run_refusal s text) made_run r (found_left s text resources) (length resources.kept)

  module _ (passes : run_refusal s text ≡ None) where
    pub listed_found : listed_words ≡ found_by s text (room_of resources)
    unfolding found_in found_left_with found_after_with found_by summary
    listed_found = rw passes (take_overwritten resources.found (found_by s text (room_of resources)))

    module _ (complete : Completed made_run) where
      pub listing_complete : listing s text resources ≡ Ok (Complete made_run (reduced listed_words (length resources.kept)))
      unfolding listing_with searched_with discovered_with listing_of
      listing_complete = rw (passes, end_completed made_run.end complete)

      pub kept_reduced : kept_left s text resources ≡ reduced_after listed_words resources.kept
      unfolding kept_left_with searched_with discovered_with kept_of
      kept_reduced = rw (passes, end_completed made_run.end complete)
