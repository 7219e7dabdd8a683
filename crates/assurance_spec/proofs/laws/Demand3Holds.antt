-- Demand 3 holds of the definitions: of what a caller sees of any two runs and reductions that go
-- as written. What a caller sees is what the runs came to, so the law of any two runs gives all
-- that is about runs; and a completed run found the fitting candidates, whose words the reduction
-- takes.
-- Assumes nothing.
use Rattle.std.specs.Prelude.{None, Result}
use Prim.Native.Nat.{ℕ}
use mathlib.Core.Path.{◌≡◌, ◌∙◌}
use mathlib.Core.List.{List}
use lib.ListN.{length}
use Rattle.limits.specs.declared.Refusal.{Refusal}
use Rattle.limits.specs.declared.Settings.{Settings}
use Rattle.discovery_spec.specs.Discovery.{summary, run_refusal, capacity_of}
use Rattle.discovery_spec.specs.TwoRuns.{Completes, FoundAll, TwoRuns}
use Rattle.discovery_spec.proofs.laws.CallChecks.{not_refused}
use Rattle.discovery_spec.proofs.laws.AnyTwoRuns.{two_runs}
use Rattle.reduction_spec.specs.Reduction.{reduced_words}
use Rattle.reduction_spec.proofs.laws.Reducing.{reduced_kept, kept_taken}
use Rattle.listing.specs.declared.Listing.{Listing}
use Rattle.listing.specs.Listing.{Resources, GoesAsWritten}
use Rattle.assurance_spec.specs.Demand3.{Completed, ExactlyFitting, ReducedTo, AmpleCompletes, IfFirstCompletes, AnyTwoRuns, Demand3, observed, as_written}
use Rattle.assurance_spec.proofs.laws.RunSeen.{room_of, at_least, made_run, listed_words, answered, listed_found, listing_complete, kept_reduced}
use Rattle.assurance_spec.proofs.laws.ListedPlaces.{exactly_fitting, fitting_listable, exactly_irredundant}

module _ (s : Settings) (text : List ℕ) (passes : run_refusal s text ≡ None) where
  -- the reduction of the fitting candidates that a completed run found
  reduced_to : (resources : Resources) → Completed (made_run s text resources) → ExactlyFitting s text (listed_words s text resources)
      → ReducedTo (as_written s text resources) (made_run s text resources)
  unfolding ReducedTo as_written
  reduced_to resources complete fitting =
      let words = listed_words s text resources in
      let places = fitting_listable s text words (not_refused s text passes).settings.few_activities fitting in
      λ enough. (
        length (reduced_words words),
        rw (listing_complete s text resources passes complete, reduced_kept words places (length resources.kept) enough),
        rw (kept_reduced s text resources passes complete, kept_taken words places resources.kept enough)
            (exactly_irredundant words places fitting.in_order),
      )

  module _ (first second : Resources) (claim : TwoRuns s text (room_of first) (room_of second)) where
    all_listed : (resources : Resources) → FoundAll s text (room_of resources) → ExactlyFitting s text (listed_words s text resources)
    unfolding FoundAll
    all_listed resources all =
        exactly_fitting s text (listed_words s text resources) (listed_found s text resources passes ∙ all) claim.all_fitting

    both_complete : Completed (made_run s text first)
        → IfFirstCompletes s text (as_written s text first) (as_written s text second) (made_run s text first) (made_run s text second)
    unfolding Completes as_written summary
    both_complete complete =
        let both = claim.complete complete in
        let one = all_listed first both.found_by_first in
        let two = all_listed second both.found_by_second in
        record {
          second_completes = both.completes;
          no_more_replays = both.replays;
          no_more_visits = both.visits;
          first_listed = one;
          second_listed = two;
          first_reduced = reduced_to first complete one;
          second_reduced = reduced_to second both.completes two;
        }

    any_two_runs : AnyTwoRuns s text (as_written s text first) (as_written s text second) (made_run s text first) (made_run s text second)
    unfolding AmpleCompletes Completes as_written summary capacity_of
    any_two_runs =
        record {
          beginning = rw (listed_found s text first passes, listed_found s text second passes) claim.beginning;
          first_ample = claim.ample (room_of first);
          second_ample = claim.ample (room_of second);
          if_first_completes = both_complete;
        }

pub demand_3 : (s : Settings) (text : List ℕ) (first second : Resources) → Demand3 s text (as_written s text first) (as_written s text second)
unfolding Demand3 as_written
demand_3 s text first second run₁ run₂ e₁ e₂ more =
    let one = answered s text first run₁ e₁ in
    let two = answered s text second run₂ e₂ in
    let claim = two_runs s text (room_of first) (room_of second) one.0 (at_least first second more) in
    rw (one.1, two.1) (any_two_runs s text one.0 first second claim)

-- so it holds of calls that go as written
seen : {s : Settings} {text : List ℕ} {resources : Resources} {answer : Result Listing Refusal} {rejected found kept : List ℕ}
    → GoesAsWritten s text resources answer rejected found kept → observed resources answer found kept ≡ as_written s text resources
unfolding as_written
seen goes = rw (goes.answers, goes.leaves_found, goes.leaves_kept)

pub demand_3_seen : {s : Settings} {text : List ℕ} {resources₁ resources₂ : Resources} {answer₁ answer₂ : Result Listing Refusal}
    {rejected₁ rejected₂ found₁ found₂ kept₁ kept₂ : List ℕ}
    → GoesAsWritten s text resources₁ answer₁ rejected₁ found₁ kept₁
    → GoesAsWritten s text resources₂ answer₂ rejected₂ found₂ kept₂
    → Demand3 s text (observed resources₁ answer₁ found₁ kept₁) (observed resources₂ answer₂ found₂ kept₂)
demand_3_seen {s = s} {text = text} {resources₁ = resources₁} {resources₂ = resources₂} first second =
    rw (seen first, seen second) (demand_3 s text resources₁ resources₂)
