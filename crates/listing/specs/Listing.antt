-- A run and, after a completed one, the reduction of what it found: what both answer, and what the
-- buffers hold on return, refusals included. Document 01, the words of demand 3: what a run found
-- (listed), and the reduced (thinned) list.
-- Assumes nothing.
use Rattle.std.specs.Prelude.{ℕ, ◌≡◌, cond, List, length, take, Option, None, Some, Result, Ok, Err}
use Rattle.limits.specs.declared.Refusal.{Refusal}
use Rattle.limits.specs.declared.Settings.{Settings}
use Rattle.limits.specs.Refusals.{number, value, Numbered, answer_number, answer_value}
use Rattle.discovery_spec.specs.declared.Run.{Run}
use Rattle.discovery_spec.specs.Search.{is_completed}
use Rattle.event_log_spec.specs.Frames.{count_digits}
use Rattle.discovery_spec.specs.Discovery.{discovered_with, capacity_of, found_after_with, rejected_after_with}
use Rattle.reduction_spec.specs.Reduction.{reduction_refusal, reduced, reduced_after}
use Rattle.listing.specs.declared.Listing.{Listing}
use Rattle.listing.specs.declared.Listing.TheVariants.{Incomplete, Complete}

-- what a call is given to work with: the cache of rejected places (shelf), the list and the buffer
-- for the reduced list, each with what it holds, and the replay budget (allowance)
pub record Resources : Type 0 where
  pub rejected : List ℕ
  pub found : List ℕ
  pub kept : List ℕ
  pub budget : ℕ

abbrev pub resources_of : List ℕ → List ℕ → List ℕ → ℕ → Resources
resources_of rejected found kept budget = record { rejected = rejected; found = found; kept = kept; budget = budget }

-- what a run found (listed), in its list as it left it: the first words, as many as it answers
unfoldable pub found_in : Run → List ℕ → List ℕ
found_in run found = take run.found found

-- what is answered once the search has answered and left its list so, with a second buffer of that
-- many words
unfoldable pub listing_of : Result Run Refusal → List ℕ → ℕ → Result Listing Refusal
listing_of (Err refusal) found room = Err refusal
listing_of (Ok run) found room =
    Ok (cond (is_completed run.end) (Complete run (reduced (found_in run found) room)) (Incomplete run))

-- the refusal of the call: the search's, or after a completed run that of the reduction
unfoldable pub refusal_of : Result Run Refusal → List ℕ → ℕ → Option Refusal
refusal_of (Err refusal) found room = Some refusal
refusal_of (Ok run) found room = cond (is_completed run.end) (reduction_refusal (found_in run found) room) None

-- the number of an answer, 0 where nothing is refused, and the value beside it
unfoldable pub listing_number : Result Listing Refusal → ℕ
listing_number (Err refusal) = number refusal
listing_number (Ok (Incomplete run)) = 0
listing_number (Ok (Complete run answer)) = answer_number answer

unfoldable pub listing_value : Result Listing Refusal → ℕ
listing_value (Err refusal) = value refusal
listing_value (Ok (Incomplete run)) = 0
listing_value (Ok (Complete run answer)) = answer_value answer

-- what the second buffer then holds
unfoldable pub kept_of : Result Run Refusal → List ℕ → List ℕ → List ℕ
kept_of (Err refusal) found kept = kept
kept_of (Ok run) found kept = cond (is_completed run.end) (reduced_after (found_in run found) kept) kept

-- with so many digits in a case count
module _ (digits : ℕ) (s : Settings) (text : List ℕ) (resources : Resources) where
  -- the search's own answer
  unfoldable pub searched_with : Result Run Refusal
  searched_with = discovered_with digits s text (capacity_of resources.rejected resources.found resources.budget)

  -- the cache, the list and the second buffer on return
  unfoldable pub rejected_left_with : List ℕ
  rejected_left_with = rejected_after_with digits s text resources.rejected resources.found resources.budget

  unfoldable pub found_left_with : List ℕ
  found_left_with = found_after_with digits s text resources.rejected resources.found resources.budget

  unfoldable pub kept_left_with : List ℕ
  kept_left_with = kept_of searched_with found_left_with resources.kept

  -- the answer
  unfoldable pub listing_with : Result Listing Refusal
  listing_with = listing_of searched_with found_left_with (length resources.kept)

-- each of them as the call has it
abbrev pub searched : Settings → List ℕ → Resources → Result Run Refusal
searched = searched_with count_digits

abbrev pub rejected_left : Settings → List ℕ → Resources → List ℕ
rejected_left = rejected_left_with count_digits

abbrev pub found_left : Settings → List ℕ → Resources → List ℕ
found_left = found_left_with count_digits

abbrev pub kept_left : Settings → List ℕ → Resources → List ℕ
kept_left = kept_left_with count_digits

abbrev pub listing : Settings → List ℕ → Resources → Result Listing Refusal
listing = listing_with count_digits

module _ (s : Settings) (text : List ℕ) (resources : Resources) where
  -- a call goes as written: its answer, what it leaves in the three buffers, and the number and
  -- value of the answer
  pub record GoesAsWritten (answer : Result Listing Refusal) (rejected found kept : List ℕ) : Type 0 where
    pub answers : answer ≡ listing s text resources
    pub leaves_rejected : rejected ≡ rejected_left s text resources
    pub leaves_found : found ≡ found_left s text resources
    pub leaves_kept : kept ≡ kept_left s text resources
    pub numbered :
        Numbered (refusal_of (searched s text resources) (found_left s text resources) (length resources.kept)) (listing_number answer) (listing_value answer)
