-- What is promised of any two runs on one log under the same settings, of which the second has at
-- least the room and the budget of the first: the part of demand 3 that is about runs. Document 01,
-- "Thinning and writing", the words of demand 3.
-- Assumes nothing.
use Rattle.std.specs.Prelude.{ℕ, ◌≤◌, ◌≡◌, ◌↔◌, Bool, true, false, length}
use mathlib.Core.List.{List, ◌++◌, map, Memᴰ}
use Rattle.foundation.specs.Lists.{Ordered}
use Rattle.std.specs.List.{filter}
use Rattle.limits.specs.declared.Settings.{Settings}
use Rattle.places.specs.declared.Place.{Place}
use Rattle.places.specs.Places.{word, place_of}
use Rattle.places.specs.Order.{PlaceBefore}
use Rattle.places.specs.Candidates.{candidate, candidates}
use Rattle.event_log_spec.specs.Lines.{frames_of}
use Rattle.replay_spec.specs.declared.Verdict.{Verdict}
use Rattle.replay_spec.specs.declared.Verdict.TheVariants.{Fitting, Underfed, Overfed, Both}
use Rattle.replay_spec.specs.Judgement.{verdict}
use Rattle.discovery_spec.specs.declared.End.TheVariants.{Completed}
use Rattle.discovery_spec.specs.Search.{Capacity, end_of, state_of}
use Rattle.discovery_spec.specs.Discovery.{run}

-- neither underfed nor overfed
unfoldable pub is_fitting : Verdict → Bool
is_fitting Fitting = true
is_fitting Underfed = false
is_fitting Overfed = false
is_fitting Both = false

module _ (s : Settings) (text : List ℕ) where
  -- the place fits, by its verdict at T over all frames of the log
  unfoldable pub fits : Place → Bool
  fits p = is_fitting (verdict s.threshold (frames_of text) p)

  -- the fitting candidates in the stated order
  unfoldable pub fitting_candidates : List Place
  fitting_candidates = filter fits (candidates s)

  -- what a run found (listed): its words
  unfoldable pub found_by : Capacity → List ℕ
  found_by room = (state_of (run s text room)).found

  -- a run completes when its end is 0
  unfoldable pub Completes : Capacity → Type 0
  Completes room = end_of (run s text room) ≡ Completed

  -- the run of this capacity found exactly the fitting candidates, in their order
  unfoldable pub FoundAll : Capacity → Type 0
  FoundAll room = found_by room ≡ map word fitting_candidates

  -- the fitting candidates are all candidates that are not underfed and not overfed, and no others;
  -- none is there twice, they stand in the stated order, and their words tell them apart
  pub record AllFitting : Type 0 where
    pub exactly : (p : Place) → Memᴰ p fitting_candidates ↔ ((candidate s p ≡ true) × (fits p ≡ true))
    pub once : Ordered (λ (p q : Place). p ≡ q → ⊥) fitting_candidates
    pub in_order : Ordered PlaceBefore fitting_candidates
    pub by_words : map place_of (map word fitting_candidates) ≡ fitting_candidates

-- room and budget of the second capacity are each at least those of the first
pub record AtLeast (first second : Capacity) : Type 0 where
  pub rejected : first.rejected ≤ second.rejected
  pub found : first.found ≤ second.found
  pub budget : first.budget ≤ second.budget

module _ (s : Settings) (text : List ℕ) (first second : Capacity) where
  -- what follows where the first run completes
  pub record BothComplete : Type 0 where
    pub completes : Completes s text second
    pub replays : (state_of (run s text second)).replays ≤ (state_of (run s text first)).replays
    pub visits : (state_of (run s text second)).visits ≤ (state_of (run s text first)).visits
    pub found_by_first : FoundAll s text first
    pub found_by_second : FoundAll s text second

  -- the claim about two runs
  pub record TwoRuns : Type 0 where
    -- what the first found stands at the front of what the second found
    pub beginning : (rest : List ℕ) × (found_by s text second ≡ found_by s text first ++ rest)
    -- with any cache, a run completes that has room for all fitting candidates and a budget of the
    -- number of candidates or more
    pub ample :
        (room : Capacity) → length (fitting_candidates s text) ≤ room.found → length (candidates s) ≤ room.budget
        → Completes s text room
    -- if the first completes the second does as well, neither its replays nor its visits are more,
    -- and both found all fitting candidates
    pub complete : Completes s text first → BothComplete
    pub all_fitting : AllFitting s text
