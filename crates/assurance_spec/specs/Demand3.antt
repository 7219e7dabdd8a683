-- Demand 3, in its own words: one claim about two runs on one log under the same settings and about
-- both reductions. It speaks of what a caller sees: what was lent, what was answered, and what the
-- buffers hold on return. Document 00, demand 3; document 01, the words of demand 3.
-- Assumes nothing.
use Rattle.std.specs.Prelude.{ℕ, ◌≤◌, ◌≡◌, ◌↔◌, true, length, take, Option, None, Some, Result, Ok, Err}
use mathlib.Core.List.{List, ◌++◌, map, Memᴰ}
use Rattle.foundation.specs.Lists.{Ordered}
use Rattle.limits.specs.declared.Refusal.{Refusal}
use Rattle.limits.specs.declared.Settings.{Settings}
use Rattle.places.specs.declared.Place.{Place}
use Rattle.places.specs.Places.{word, place_of}
use Rattle.places.specs.Order.{PlaceBefore}
use Rattle.places.specs.Candidates.{candidate, candidates}
use Rattle.discovery_spec.specs.declared.End.TheVariants as End
use Rattle.discovery_spec.specs.declared.Run.{Run}
use Rattle.discovery_spec.specs.TwoRuns.{fits, fitting_candidates}
use Rattle.reduction_spec.specs.Unions.{UnionOf}
use Rattle.reduction_spec.specs.Reduction.{reduced_words}
use Rattle.listing.specs.declared.Listing.{Listing}
use Rattle.listing.specs.declared.Listing.TheVariants.{Incomplete, Complete}
use Rattle.listing.specs.Listing.{Resources, found_in, found_left, kept_left, listing}

-- one run and its reduction as a caller sees them: what was lent, the answer, and the list and the
-- second buffer on return
pub record Observed : Type 0 where
  pub resources : Resources
  pub answer : Result Listing Refusal
  pub found : List ℕ
  pub kept : List ℕ

abbrev pub observed : Resources → Result Listing Refusal → List ℕ → List ℕ → Observed
observed resources answer found kept = record { resources = resources; answer = answer; found = found; kept = kept }

-- the run of an answer: a call of the search that is not refused
unfoldable pub run_of : Result Listing Refusal → Option Run
run_of (Err refusal) = None
run_of (Ok (Incomplete run)) = Some run
run_of (Ok (Complete run reduced)) = Some run

-- a run completes: its end is 0
abbrev pub Completed : Run → Type 0
Completed run = run.end ≡ End.Completed

-- cache (shelf), list and replay budget (allowance) of the second are none of them smaller
pub record AtLeastAsLarge (first second : Resources) : Type 0 where
  pub rejected : length first.rejected ≤ length second.rejected
  pub found : length first.found ≤ length second.found
  pub budget : first.budget ≤ second.budget

-- the words are precisely those of the fitting candidates, the through places within mi and mo that
-- are not underfed and not overfed: none is missing, none is there twice, there is no other, and
-- they stand in the stated order
pub record ExactlyFitting (s : Settings) (text : List ℕ) (words : List ℕ) : Type 0 where
  pub these : words ≡ map word (fitting_candidates s text)
  pub exactly : (p : Place) → Memᴰ p (map place_of words) ↔ ((candidate s p ≡ true) × (fits s text p ≡ true))
  pub once : Ordered (λ (p q : Place). p ≡ q → ⊥) (map place_of words)
  pub in_order : Ordered PlaceBefore (map place_of words)

-- the kept words are precisely those listed words whose place is not the union of at least two
-- non-overlapping listed places; the order stays the same
pub record ExactlyIrredundant (listed kept : List ℕ) : Type 0 where
  pub these : kept ≡ reduced_words listed
  pub exactly : (w : ℕ) → Memᴰ w kept ↔ (Memᴰ w listed × (UnionOf listed (place_of w) → ⊥))
  pub in_order : Ordered PlaceBefore (map place_of kept)

-- the reduction of what a completed run found, into a second buffer that is no shorter: it answers
-- how many words it kept, and they stand at the front of that buffer
unfoldable pub ReducedTo : Observed → Run → Type 0
ReducedTo o run =
    let listed = found_in run o.found in
    length listed ≤ length o.resources.kept
    → (count : ℕ) × (o.answer ≡ Ok (Complete run (Ok count))) × ExactlyIrredundant listed (take count o.kept)

-- a run completes when its list has room for all fitting candidates and its budget is the number of
-- candidates or more
unfoldable pub AmpleCompletes : Settings → List ℕ → Resources → Run → Type 0
AmpleCompletes s text resources run =
    length (fitting_candidates s text) ≤ length resources.found → length (candidates s) ≤ resources.budget → Completed run

module _ (s : Settings) (text : List ℕ) (first second : Observed) where
  -- what follows if the first run completes
  pub record IfFirstCompletes (run₁ run₂ : Run) : Type 0 where
    -- the second does as well, and neither its replays nor its visits are more
    pub second_completes : Completed run₂
    pub no_more_replays : run₂.replays ≤ run₁.replays
    pub no_more_visits : run₂.visits ≤ run₁.visits
    -- both found precisely the fitting candidates
    pub first_listed : ExactlyFitting s text (found_in run₁ first.found)
    pub second_listed : ExactlyFitting s text (found_in run₂ second.found)
    -- both reductions keep precisely the found places that are no unions
    pub first_reduced : ReducedTo first run₁
    pub second_reduced : ReducedTo second run₂

  -- the claim about two runs
  pub record AnyTwoRuns (run₁ run₂ : Run) : Type 0 where
    -- what the first found stands at the front of what the second found
    pub beginning : (rest : List ℕ) × (found_in run₂ second.found ≡ found_in run₁ first.found ++ rest)
    -- with any cache, each of them completes when its list and its budget are large enough
    pub first_ample : AmpleCompletes s text first.resources run₁
    pub second_ample : AmpleCompletes s text second.resources run₂
    -- if the first completes
    pub if_first_completes : Completed run₁ → IfFirstCompletes run₁ run₂

  -- demand 3, of any two runs: cache, list and budget of the second are none of them smaller than
  -- those of the first
  unfoldable pub Demand3 : Type 0
  Demand3 =
      (run₁ run₂ : Run)
      → run_of first.answer ≡ Some run₁
      → run_of second.answer ≡ Some run₂
      → AtLeastAsLarge first.resources second.resources
      → AnyTwoRuns run₁ run₂

-- what a caller sees of a run and its reduction that go as written
unfoldable pub as_written : Settings → List ℕ → Resources → Observed
as_written s text resources = observed resources (listing s text resources) (found_left s text resources) (kept_left s text resources)
