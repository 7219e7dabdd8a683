-- What follows the answer of the search: a refusal and a run that stopped are handed on, with the
-- further buffer as it was; what a completed run found is reduced into that buffer. The number and
-- the value of the answer are those of the search's refusal or of the reduction's.
-- Assumes nothing.
use Rattle.std.specs.Prelude.{Result, Ok, Err}
use Prim.Native.Nat.{ℕ}
use mathlib.Core.Path.{◌≡◌, refl, ap, ap₂, ◌∙◌}
use mathlib.Core.Bool.{true, false}
use mathlib.Core.List.{List}
use lib.ListN.{length, take}
use Rattle.foundation.proofs.laws.Booleans.{by_test}
use Rattle.limits.specs.declared.Refusal.{Refusal}
use Rattle.limits.specs.declared.Settings.{Settings}
use Rattle.limits.specs.Refusals.{number_given, value_given, Numbered}
use Rattle.discovery_spec.specs.declared.Run.{Run}
use Rattle.discovery_spec.specs.Search.{is_completed}
use Rattle.discovery_spec.specs.Discovery.{discovered, capacity_of, found_after, rejected_after}
use Rattle.reduction_spec.specs.Reduction.{reduced, reduced_after}
use Rattle.limits.proofs.laws.AnswerNumbers.{answer_numbered}
use Rattle.listing.specs.declared.Listing.{Listing}
use Rattle.listing.specs.declared.Listing.TheVariants.{Incomplete, Complete}
use Rattle.listing.specs.Listing.{Resources, found_in, listing_of, refusal_of, listing_number, listing_value, kept_of, searched_with, rejected_left_with, found_left_with, kept_left_with, listing_with, GoesAsWritten}

-- an answer has the number and the value of what was refused, by what the search answered
listing_numbered : (d : Result Run Refusal) (found : List ℕ) (room : ℕ)
    → let answer = listing_of d found room in Numbered (refusal_of d found room) (listing_number answer) (listing_value answer)
unfolding refusal_of listing_of listing_number listing_value number_given value_given reduced
listing_numbered (Err r) found room = record { number_is = refl; value_is = refl }
listing_numbered (Ok run) found room =
    by_test
    (is_completed run.end)
    (λ e. rw e (answer_numbered _ _))
    (λ e. rw e (record { number_is = refl; value_is = refl }))

-- the search answers and leaves what it is to
module _
    {s : Settings} {text : List ℕ} {resources : Resources} {d : Result Run Refusal} {rejected found : List ℕ}
    (answers : d ≡ discovered s text (capacity_of resources.rejected resources.found resources.budget))
    (rejects : rejected ≡ rejected_after s text resources.rejected resources.found resources.budget)
    (finds : found ≡ found_after s text resources.rejected resources.found resources.budget)
  where
    returned : (answer : Result Listing Refusal) (kept : List ℕ) → answer ≡ listing_of d found (length resources.kept) → kept ≡ kept_of d found resources.kept
        → GoesAsWritten s text resources answer rejected found kept
    unfolding searched_with rejected_left_with found_left_with kept_left_with listing_with
    returned answer kept e f =
        let listed = e ∙ ap₂ (λ (x : Result Run Refusal) (l : List ℕ). listing_of x l (length resources.kept)) answers finds in
        record {
          answers = listed;
          leaves_rejected = rejects;
          leaves_found = finds;
          leaves_kept = f ∙ ap₂ (λ (x : Result Run Refusal) (l : List ℕ). kept_of x l resources.kept) answers finds;
          numbered = rw listed (listing_numbered _ _ (length resources.kept));
        }

    pub search_refused : (r : Refusal) → d ≡ Err r → GoesAsWritten s text resources (Err r) rejected found resources.kept
    unfolding listing_of kept_of
    search_refused r e = returned (Err r) resources.kept (rw e) (rw e)

    pub search_stopped : (run : Run) → d ≡ Ok run → is_completed run.end ≡ false → GoesAsWritten s text resources (Ok (Incomplete run)) rejected found resources.kept
    unfolding listing_of kept_of
    search_stopped run e stopped = returned (Ok (Incomplete run)) resources.kept (rw (e, stopped)) (rw (e, stopped))

    -- the reduction is given the first words of the list, as many as were found
    pub search_completed : (run : Run) → d ≡ Ok run → is_completed run.end ≡ true → (answer : Result ℕ Refusal) (kept : List ℕ)
        → answer ≡ reduced (take run.found found) (length resources.kept) → kept ≡ reduced_after (take run.found found) resources.kept
        → GoesAsWritten s text resources (Ok (Complete run answer)) rejected found kept
    unfolding listing_of kept_of found_in
    search_completed run e ended answer kept a k =
        returned (Ok (Complete run answer)) kept (rw (e, ended) (ap (λ (x : Result ℕ Refusal). Ok (Complete run x)) a)) (rw (e, ended) k)
