-- What the answer and the buffers of a listing say of its run. The search was refused, or the
-- answer carries its run; the words to report are the first ones of the list if the run stopped,
-- and the first ones of the second buffer if it completed. There they are the reduced list, since a
-- completed run found candidates, and a second buffer as long as the list takes all of their words:
-- that reduction is never refused.
-- Assumes nothing.
use Rattle.std.specs.Prelude.{None, Some, Result, Ok, Err}
use Prim.Native.Nat.{ℕ, ◌≤◌}
use native.Mathlib.Nat.{le_refl}
use native.Mathlib.Omega.{arith}
use mathlib.Core.Path.{◌≡◌, refl, sym, ap, ◌∙◌}
use mathlib.Core.Bool.{Bool, true, not}
use mathlib.Core.List.Memᴰ
use mathlib.Core.List.{List, map}
use lib.ListN.{length, take}
use Rattle.foundation.proofs.laws.Booleans.{by_test, impossible}
use Rattle.foundation.proofs.laws.Buffers.{take_overwritten}
use Rattle.foundation.proofs.laws.Each.{each_always, filter_every}
use Rattle.foundation.proofs.laws.Filtering.{filter_fewer}
use Rattle.foundation.proofs.laws.Members.{members_each}
use Rattle.limits.specs.declared.Refusal.{Refusal}
use Rattle.limits.specs.declared.Settings.{Settings}
use Rattle.places.specs.Places.{place_of}
use Rattle.candidate_order_spec.proofs.laws.CandidateOrder.{candidate_under}
use Rattle.discovery_spec.specs.declared.End.TheVariants as End
use Rattle.discovery_spec.specs.declared.Run.{Run}
use Rattle.discovery_spec.specs.Search.{Capacity, Progress, end_of, is_completed, state_of}
use Rattle.discovery_spec.specs.Discovery.{run, summary, run_refusal, discovered_with, capacity_of, found_after_with}
use Rattle.discovery_spec.specs.TwoRuns.{found_by, Completes, FoundAll}
use Rattle.discovery_spec.proofs.laws.AnswerLaws.{answer_within}
use Rattle.discovery_spec.proofs.laws.AnyTwoRuns.{two_runs}
use Rattle.discovery_spec.proofs.laws.CallChecks.{not_refused}
use Rattle.discovery_spec.proofs.laws.Ends.{end_completed}
use Rattle.reduction_spec.specs.Cover.{Listable}
use Rattle.reduction_spec.specs.Reduction.{redundant, reduced_words, reduced}
use Rattle.reduction_spec.proofs.laws.Reducing.{reduced_kept, kept_taken}
use Rattle.listing.specs.declared.Listing.{Listing}
use Rattle.listing.specs.declared.Listing.TheVariants.{Incomplete, Complete}
use Rattle.listing.specs.Listing.{Resources, found_in, kept_of, searched_with, found_left, found_left_with, kept_left_with, listing_with, GoesAsWritten}
use Rattle.reporter_spec.specs.Program.{reported_words}
use Rattle.reporter.proofs.laws.ListingCases.{Completed, was_refused, was_incomplete, was_complete}

few_reduced : (words : List ℕ) → length (reduced_words words) ≤ length words
unfolding reduced_words
few_reduced words =
    let every : ℕ → Bool = λ w. true in
    rw (filter_every every (each_always (λ w. refl) words)) at (filter_fewer (λ (w : ℕ). not (redundant words w)) every (each_always (λ w t. refl) words))

module _ (s : Settings) (text : List ℕ) (room : Capacity) (passes : run_refusal s text ≡ None) where
  -- a run finds no more words than its list takes, and no more are reported
  found_fits : length (state_of (run s text room)).found ≤ room.found
  unfolding discovered_with summary
  found_fits = (answer_within s text room (summary (run s text room)) (rw passes)).found_fits

  pub reported_fits : length (reported_words (run s text room)) ≤ room.found
  unfolding reported_words
  reported_fits =
      by_test
      (is_completed (end_of (run s text room)))
      (λ t. rw t (omega (arith, found_fits, few_reduced (state_of (run s text room)).found)))
      (λ f. rw f found_fits)

  -- what a completed run found stands for candidates
  found_listable : end_of (run s text room) ≡ End.Completed → Listable (state_of (run s text room)).found
  unfolding Listable Completes FoundAll found_by
  found_listable complete =
      let claim = two_runs s text room room passes (record { rejected = le_refl _; found = le_refl _; budget = le_refl _ }) in
      let fitting = claim.all_fitting in
      let places = ap (map place_of) (claim.complete complete).found_by_first ∙ fitting.by_words in
      let few = (not_refused s text passes).settings.few_activities in
      members_each _ (λ w at. candidate_under s few (place_of w) ((fitting.exactly (place_of w)).0 (rw places at (Memᴰ.map place_of at))).0)

-- an answered run is that of this capacity, which is not refused, and so many words of a buffer are
-- to be reported
pub record Reports (s : Settings) (text : List ℕ) (room : Capacity) (x : Run) (count : ℕ) (buffer : List ℕ) : Type 0 where
  pub passes : run_refusal s text ≡ None
  pub own : x ≡ summary (run s text room)
  pub counted : count ≡ length (reported_words (run s text room))
  pub these : take count buffer ≡ reported_words (run s text room)

-- the capacity of a run that is given these buffers and this budget
abbrev pub room_of : Resources → Capacity
room_of resources = capacity_of resources.rejected resources.found resources.budget

module _ {s : Settings} {text : List ℕ} {resources : Resources} {answer : Result Listing Refusal} {rejected found kept : List ℕ}
    (goes : GoesAsWritten s text resources answer rejected found kept)
  where
    abbrev made : Progress
    made = run s text (room_of resources)

    pub listing_refused : (r : Refusal) → answer ≡ Err r → run_refusal s text ≡ Some r
    unfolding listing_with searched_with discovered_with
    listing_refused r e = was_refused (run_refusal s text) (summary made) _ _ r (sym goes.answers ∙ e)

    -- the words that the run found are the first ones of its list
    found_first : run_refusal s text ≡ None → found_in (summary made) (found_left s text resources) ≡ (state_of made).found
    unfolding found_in found_left_with found_after_with summary
    found_first passes = rw passes (take_overwritten resources.found (state_of made).found)

    pub listing_stopped : (x : Run) → answer ≡ Ok (Incomplete x) → Reports s text (room_of resources) x x.found found
    unfolding listing_with searched_with discovered_with summary found_in reported_words
    listing_stopped x e =
        let was = was_incomplete (run_refusal s text) (summary made) _ _ x (sym goes.answers ∙ e) in
        record {
          passes = was.passes;
          own = was.own;
          counted = rw (was.own, was.early);
          these = rw (was.own, was.early, goes.leaves_found) (found_first was.passes);
        }

    -- where the second buffer is as long as the list, the reduction after a completed run answers
    -- how many words it kept, and they are its first
    module _ (long : length resources.found ≤ length resources.kept) where
      module _ (passes : run_refusal s text ≡ None) (ended : end_of made ≡ End.Completed) where
        enough : length (state_of made).found ≤ length resources.kept
        unfolding capacity_of
        enough = omega (arith, found_fits s text (room_of resources) passes)

        reduction_answers : reduced (found_in (summary made) (found_left s text resources)) (length resources.kept)
            ≡ Ok (length (reported_words made))
        unfolding reported_words
        reduction_answers =
            rw (found_first passes, end_completed (end_of made) ended)
            (reduced_kept (state_of made).found (found_listable s text (room_of resources) passes ended) (length resources.kept) enough)

        reduction_leaves : take (length (reported_words made)) kept ≡ reported_words made
        unfolding reported_words kept_left_with searched_with discovered_with kept_of summary
        reduction_leaves =
            rw (goes.leaves_kept, passes, end_completed (end_of made) ended, found_first passes)
            (kept_taken (state_of made).found (found_listable s text (room_of resources) passes ended) resources.kept enough)

      completed_so : (x : Run) (d : Result ℕ Refusal) → answer ≡ Ok (Complete x d)
          → Completed (run_refusal s text) (summary made) x × (d ≡ Ok (length (reported_words made)))
      unfolding listing_with searched_with discovered_with summary
      completed_so x d e =
          let was = was_complete (run_refusal s text) (summary made) _ _ x d (sym goes.answers ∙ e) in
          (was.0, was.1 ∙ reduction_answers was.0.passes was.0.ended)

      pub listing_completed : (x : Run) (count : ℕ) → answer ≡ Ok (Complete x (Ok count)) → Reports s text (room_of resources) x count kept
      unfolding summary
      listing_completed x count e =
          let was = completed_so x (Ok count) e in
          let counted : count ≡ length (reported_words made) = cc was.1 in
          record {
            passes = was.0.passes;
            own = was.0.own;
            counted = counted;
            these = rw counted (reduction_leaves was.0.passes was.0.ended);
          }

      pub reduction_passes : (x : Run) (r : Refusal) → answer ≡ Ok (Complete x (Err r)) → ⊥
      reduction_passes x r e = let was = completed_so x (Err r) e in impossible (cc was.1)
