-- The loop over output sets: the candidates still to come are those with the output set at hand and
-- the input sets from the one at hand on, and those with the output sets after it. A turn takes the
-- first of these rows. What it prunes has the row's outputs, so no candidate of another row
-- descends from it.
-- Assumes nothing.
use Rattle.std.specs.Prelude.{Ok, Err}
use Prim.Native.Nat.{ℕ, ◌+◌, ◌≤◌, ◌<◌, ◌^◌}
use native.Mathlib.Omega.{arith}
use mathlib.Core.Path.{◌≡◌, refl, sym, ap, subst, ◌∙◌}
use mathlib.Core.Logic.{◌⊎◌, inl, inr}
use mathlib.Core.Bool.{true}
use mathlib.Core.List.{List, [], ◌∷◌, ◌++◌, flat_map}
use lib.ListN.{length, length-append, length-map}
use borrow.Author.Tests.{ne_eqb}
use Rattle.foundation.specs.Lists.{Each, each_nil, Ordered}
use Rattle.foundation.proofs.laws.Each.{each_map, each_imply, each_always, each_none, each_flat_map}
use Rattle.foundation.proofs.laws.Ordered.{ordered_back, ordered_head}
use Rattle.limits.specs.Settings.{most_activities}
use Rattle.places.specs.declared.Place.{Place}
use Rattle.places.specs.Places.{place}
use Rattle.places.specs.Candidates.{candidate_set, sets, descends}
use Rattle.places.specs.Succession.{from, set_after, with_outputs, rows}
use Rattle.candidate_order_spec.proofs.laws.From.{Apart, from_ends}
use Rattle.candidate_order_spec.proofs.laws.SetOrder.{sets_distinct}
use Rattle.candidate_order_spec.proofs.laws.Succession.{from_nothing, from_first, first_kind, after_from, after_kind}
use Rattle.discovery_spec.specs.declared.End.{End}
use Rattle.discovery_spec.specs.Search.{going, state_of}
use Rattle.candidate_visit.specs.declared.RunState.{RunState}
use Rattle.candidate_visit.specs.Standing.{state_in, room_in}
use Rattle.discovery.specs.Searching.{Carries}
use Rattle.discovery.proofs.laws.Onward.{Beginning, over, Done, Reached, reached_end, visits_left, reached_stop, reached_on, goes_on, has_stopped}
use Rattle.discovery.proofs.laws.PrunedAside.{NotBelow}
use Rattle.discovery_spec.proofs.laws.RunSteps.{run_outputs}

-- a candidate with other outputs stands below none of these
other_outputs : (o : ℕ) (c : Place) {ps : List Place} → (o ≡ c.outputs → ⊥) → Each (λ (d : Place). d.outputs ≡ o) ps → NotBelow ps c
unfolding descends
other_outputs o c other same =
    each_none (λ (a : Place). descends a c) (each_imply (λ d e. rw (ne_eqb d.outputs c.outputs λ x. other (sym e ∙ x))) same)

-- with all input sets from the first row on
pub rows_whole : (inputs outputs : List ℕ) → rows inputs inputs outputs ≡ flat_map (with_outputs inputs) outputs
unfolding rows flat_map
rows_whole inputs [] = refl
rows_whole inputs (o ∷ os) = refl

module _ (n mi mo : ℕ) where
  -- the candidates from the place (i, o) on
  abbrev pub places_from : ℕ → ℕ → List Place
  places_from i o = rows (from i (sets n mi)) (sets n mi) (from o (sets n mo))

  module _ (few : n ≤ most_activities) (some_codes : 1 ≤ n) (some_inputs : 1 ≤ mi) (i o : ℕ) (this : candidate_set n mo o ≡ true) where
    abbrev after : List ℕ
    after = from (set_after o (sets n mo)) (sets n mo)

    further_rows : places_from 1 (set_after o (sets n mo)) ≡ flat_map (with_outputs (sets n mi)) after
    further_rows =
        ap (λ (l : List ℕ). rows l (sets n mi) after) (from_first n mi some_codes some_inputs) ∙ rows_whole (sets n mi) after

    -- the row at hand, and the rows after it from their first input set on
    pub first_row : places_from i o ≡ with_outputs (from i (sets n mi)) o ++ places_from 1 (set_after o (sets n mo))
    unfolding rows
    first_row =
        ap (rows (from i (sets n mi)) (sets n mi)) (after_from n mo few o this)
        ∙ ap (◌++◌ (with_outputs (from i (sets n mi)) o)) (sym further_rows)

    -- the output sets after it are other ones
    other_sets : Each (Apart o) after
    other_sets =
        let (before, split) = from_ends o (sets n mo) in
        let here : Ordered Apart (from o (sets n mo)) = ordered_back before (subst (Ordered Apart) split (sets_distinct n mo few)) in
        ordered_head (subst (Ordered Apart) (after_from n mo few o this) here)

    -- so the rows after it have other outputs
    other_rows : Each (λ (c : Place). Apart o c.outputs) (places_from 1 (set_after o (sets n mo)))
    other_rows =
        rw further_rows (
        each_flat_map (with_outputs (sets n mi)) (
        each_imply (λ t other. each_map (λ (j : ℕ). place j t) (each_always (λ j. other) (sets n mi))) other_sets
        )
        )

-- the loop at the input set i and the output set o, 0 after the last
pub record OutputsLeft (b : Beginning) (n mi mo i o : ℕ) (w : RunState) : Type 0 where
  pub inputs : candidate_set n mi i ≡ true
  pub outputs : (o ≡ 0) ⊎ (candidate_set n mo o ≡ true)
  pub reached : Reached b (places_from n mi mo i o) w
  pub countable : w.visits + length (places_from n mi mo i o) < 2 ^ 32

-- the last row was taken
pub outputs_done : {b : Beginning} {n mi mo i o : ℕ} {w : RunState} → OutputsLeft b n mi mo i o w → o ≡ 0 → Done b (Ok tt) w
unfolding rows
outputs_done {n = n} {mo = mo} at none = reached_end (rw (none, from_nothing n mo) at at.reached)

-- what the loop knows of the settings
pub record Ranges (n mi : ℕ) : Type 0 where
  pub few : n ≤ most_activities
  pub some_codes : 1 ≤ n
  pub some_inputs : 1 ≤ mi

module _
    {b : Beginning}
    {n mi mo i o : ℕ}
    {w : RunState}
    (ranges : Ranges n mi)
    (at : OutputsLeft b n mi mo i o w)
    (more : o ≡ 0 → ⊥)
  where
    pub this_row : candidate_set n mo o ≡ true
    this_row = go at.outputs
      where
        go : (o ≡ 0) ⊎ (candidate_set n mo o ≡ true) → candidate_set n mo o ≡ true
        go (inl e) = absurd (more e)
        go (inr e) = e

    abbrev front : List Place
    front = with_outputs (from i (sets n mi)) o

    abbrev next : ℕ
    next = set_after o (sets n mo)

    abbrev rest : List Place
    rest = places_from n mi mo 1 next

    split : places_from n mi mo i o ≡ front ++ rest
    split = first_row n mi mo ranges.few ranges.some_codes ranges.some_inputs i o this_row

    -- the row can be counted
    pub row_countable : w.visits + length (from i (sets n mi)) < 2 ^ 32
    row_countable =
        omega (arith, at.countable, ap length split, length-append front rest, length-map (from i (sets n mi)) (λ (j : ℕ). place j o))

    pub fewer_rows : length (from next (sets n mo)) < length (from o (sets n mo))
    fewer_rows = omega (arith, ap length (after_from n mo ranges.few o this_row))

    -- nothing of the further rows stands below what the row pruned
    clear : Each (NotBelow (state_of (over b front w)).pruned) rest
    unfolding state_of state_in
    clear =
        let start = going (state_in w) in
        let same = each_map (λ (j : ℕ). place j o) (each_always (λ j. refl) (from i (sets n mi))) in
        let pruned = run_outputs b.verdict (room_in w b.budget) o start same each_nil in
        each_imply
        (λ c other. other_outputs o c other pruned)
        (other_rows n mi mo ranges.few ranges.some_codes ranges.some_inputs i o this_row)

    reached_here : Reached b (front ++ rest) w
    reached_here = rw split at at.reached

    module _ {after : RunState} where
      -- the row stopped the run
      pub outputs_stop : {end : End} → Carries (over b front w) w (Err end) after → Done b (Err end) after
      outputs_stop row = reached_stop front rest reached_here row.leaves (has_stopped tt (over b front w) row.answered)

      -- the run goes on
      pub outputs_on : Carries (over b front w) w (Ok tt) after → OutputsLeft b n mi mo 1 next after
      outputs_on row =
          record {
            inputs = first_kind n mi ranges.few ranges.some_codes ranges.some_inputs;
            outputs = after_kind n mo ranges.few o this_row;
            reached = reached_on front rest reached_here row.leaves (goes_on tt (over b front w) row.answered) clear;
            countable = omega (arith, visits_left front rest reached_here row.leaves, at.countable, ap length split);
          }
