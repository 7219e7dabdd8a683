-- The loop over input sets: the candidates still to come are those with the outputs o and the input
-- sets from the one at hand on. A turn takes the candidate at hand, and where that is pruned below
-- also its descendants, which stand directly after it; none of the others descends from it.
-- Assumes nothing.
use Rattle.std.specs.Prelude.{Ok, Err}
use Prim.Native.Nat.{ℕ, ◌+◌, ◌≤◌, ◌<◌, ◌^◌}
use native.Mathlib.Omega.{arith}
use mathlib.Core.Path.{◌≡◌, refl, sym, ap, ◌∙◌}
use mathlib.Core.Logic.{◌⊎◌, inl, inr}
use mathlib.Core.Bool.{Bool, true, false, cond, ◌||◌, or-false}
use mathlib.Core.List.{List, [], ◌∷◌, ◌++◌, map-append}
use lib.ListN.{length, length-append, length-map}
use borrow.Author.Tests.{eq-eqb}
use Rattle.foundation.specs.Lists.{Each}
use Rattle.std.specs.List.{fold}
use Rattle.foundation.proofs.laws.Booleans.{impossible, by_test}
use Rattle.foundation.proofs.laws.Each.{each_map, each_imply, each_always}
use Rattle.limits.specs.Settings.{most_activities}
use Rattle.places.specs.declared.Place.{Place}
use Rattle.places.specs.Places.{place}
use Rattle.places.specs.Candidates.{candidate_set, sets, extends, descends}
use Rattle.places.specs.Succession.{from, set_after, set_past, with_outputs}
use Rattle.candidate_order_spec.proofs.laws.Succession.{from_nothing, after_from, past_from, after_kind, past_kind}
use Rattle.replay_spec.specs.declared.Verdict.{Verdict}
use Rattle.discovery_spec.specs.declared.End.{End}
use Rattle.discovery_spec.specs.Search.{Progress, going, stopped, is_pruned, visit, step, state_of}
use Rattle.candidate_visit.specs.declared.Descendants.{Descendants}
use Rattle.candidate_visit.specs.declared.Descendants.TheVariants.{Searched, Pruned}
use Rattle.candidate_visit.specs.declared.RunState.{RunState}
use Rattle.candidate_visit.specs.Standing.{state_in, room_in, ended, Leaves, Turns, prunes}
use Rattle.discovery.specs.Searching.{next_set}
use Rattle.discovery.proofs.laws.Onward.{Beginning, over, Done, Reached, reached_start, reached_end, visits_left, reached_stop, reached_on, goes_on, has_stopped}
use Rattle.discovery.proofs.laws.PrunedAside.{NotBelow, run_pruned}
use Rattle.discovery_spec.proofs.laws.RunSteps.{PrunedWith, Stepped, step_made}

-- with the same outputs, the input sets decide who descends from whom
module _ (i j o : ℕ) where
  same_outputs : descends (place i o) (place j o) ≡ extends i j
  unfolding descends
  same_outputs = rw (eq-eqb o o refl)

-- the turn of a candidate in memory is a step of the search
module _ (verdict : Place → Verdict) (budget : ℕ) (w : RunState) (c : Place) where
  abbrev turned : Progress
  turned = visit verdict (room_in w budget) c (state_in w)

  turn_is : step verdict (room_in w budget) (going (state_in w)) c ≡ turned
  unfolding step is_pruned state_in
  turn_is = refl

  turn_made : Stepped c (state_in w) turned
  turn_made = rw (sym turn_is) (step_made verdict (room_in w budget) c (state_in w))

  -- it prunes the candidate alone, or nothing
  turn_prunes : prunes turned ≡ true → PrunedWith c [] turned
  unfolding prunes state_in
  turn_prunes e = go turn_made.pruned
    where
      go : ((state_of turned).pruned ≡ []) ⊎ PrunedWith c [] turned → PrunedWith c [] turned
      go (inl none) = let f = rw none at e in impossible (cc)
      go (inr with_it) = with_it

  turn_leaves : prunes turned ≡ false → (state_of turned).pruned ≡ []
  unfolding prunes state_in state_of
  turn_leaves e = go turn_made.pruned
    where
      go : ((state_of turned).pruned ≡ []) ⊎ PrunedWith c [] turned → (state_of turned).pruned ≡ []
      go (inl none) = none
      go (inr with_it) = let f = rw (with_it.on, with_it.pruned) at e in impossible (cc)

-- a turn that goes on answers what it says
said_so : {d e : Descendants} (p : Progress) → Ok d ≡ ended e p → d ≡ e
said_so (going s) e = cc
said_so (stopped end s) e = cc

-- the candidates with the outputs o, from an input set on
abbrev pub inputs_from : ℕ → ℕ → ℕ → ℕ → List Place
inputs_from n m o i = with_outputs (from i (sets n m)) o

-- the loop at the input set i, 0 after the last
pub record InputsLeft (b : Beginning) (n m o i : ℕ) (w : RunState) : Type 0 where
  pub set : (i ≡ 0) ⊎ (candidate_set n m i ≡ true)
  pub reached : Reached b (inputs_from n m o i) w
  pub countable : w.visits + length (inputs_from n m o i) < 2 ^ 32

-- nothing was taken
pub inputs_start : (verdict : Place → Verdict) (budget : ℕ) (w : RunState) (n m o i : ℕ) → candidate_set n m i ≡ true
    → w.visits + length (from i (sets n m)) < 2 ^ 32
    → InputsLeft (record { verdict = verdict; budget = budget; candidates = inputs_from n m o i; run = w }) n m o i w
inputs_start verdict budget w n m o i this fits =
    record {
      set = inr this;
      reached = reached_start _;
      countable = omega (arith, length-map (from i (sets n m)) (λ (j : ℕ). place j o));
    }

-- the last set was taken
pub inputs_done : {b : Beginning} {n m o i : ℕ} {w : RunState} → InputsLeft b n m o i w → i ≡ 0 → Done b (Ok tt) w
inputs_done {n = n} {m = m} at none = reached_end (rw (none, from_nothing n m) at at.reached)

module _
    {b : Beginning}
    {n m o i : ℕ}
    {w : RunState}
    (few : n ≤ most_activities)
    (at : InputsLeft b n m o i w)
    (more : i ≡ 0 → ⊥)
  where
    pub this_set : candidate_set n m i ≡ true
    this_set = go at.set
      where
        go : (i ≡ 0) ⊎ (candidate_set n m i ≡ true) → candidate_set n m i ≡ true
        go (inl e) = absurd (more e)
        go (inr e) = e

    -- one more visit can be counted
    pub one_more : w.visits + 1 < 2 ^ 32
    one_more = omega (arith, at.countable, ap (λ (l : List ℕ). length (with_outputs l o)) (after_from n m few i this_set))

    abbrev c : Place
    c = place i o

    -- what the candidate's turn came to
    abbrev came : Progress
    came = turned b.verdict b.budget w c

    -- what a turn takes up to the input set `after`
    record Taken (after : ℕ) : Type 0 where
      front : List Place
      some : 0 < length front
      split : inputs_from n m o i ≡ front ++ inputs_from n m o after
      comes : over b front w ≡ came
      clear : Each (NotBelow (state_of came).pruned) (inputs_from n m o after)
      kind : (after ≡ 0) ⊎ (candidate_set n m after ≡ true)

    below_it : (j : ℕ) (t : Bool) → extends i j ≡ t → (descends c (place j o) || false) ≡ t
    below_it j t x = or-false (descends c (place j o)) ∙ same_outputs i j o ∙ x

    -- the candidate and its descendants
    taken_pruned : prunes came ≡ true → Taken (set_past i (sets n m))
    unfolding state_of is_pruned
    taken_pruned e =
        let past = past_from n m few i this_set in
        let pruned = turn_prunes b.verdict b.budget w c e in
        let room = room_in w b.budget in
        let of : ℕ → Place = λ j. place j o in
        record {
          front = c ∷ with_outputs past.extending o;
          some = omega arith;
          split = ap (λ (l : List ℕ). with_outputs l o) past.split
              ∙ ap (◌∷◌ c) (map-append of past.extending (from (set_past i (sets n m)) (sets n m)));
          comes = ap
              (λ (p : Progress). fold (step b.verdict room) p (with_outputs past.extending o))
              (turn_is b.verdict b.budget w c ∙ pruned.on)
              ∙ run_pruned b.verdict room pruned.state (
              each_map of (each_imply (λ j x. rw pruned.pruned (below_it j true x)) past.extend)
              )
              ∙ sym pruned.on;
          clear = rw (pruned.on, pruned.pruned) (each_map of (each_imply (λ j x. below_it j false x) past.apart));
          kind = past_kind n m few i this_set;
        }

    -- the candidate alone
    taken_alone : prunes came ≡ false → Taken (set_after i (sets n m))
    taken_alone e =
        record {
          front = c ∷ [];
          some = omega arith;
          split = ap (λ (l : List ℕ). with_outputs l o) (after_from n m few i this_set);
          comes = turn_is b.verdict b.budget w c;
          clear =
              rw (turn_leaves b.verdict b.budget w c e)
              (each_always (λ d. refl) (inputs_from n m o (set_after i (sets n m))));
          kind = after_kind n m few i this_set;
        }

    -- what the turn said of the candidate's descendants
    abbrev said : Descendants
    said = cond (prunes came) Pruned Searched

    abbrev pub next_inputs : Descendants → ℕ
    next_inputs d = next_set d i (sets n m)

    taken : {d : Descendants} → d ≡ said → Taken (next_inputs d)
    taken e = rw e (by_test (prunes came) (λ t. rw t (taken_pruned t)) (λ f. rw f (taken_alone f)))

    module _ {after : RunState} where
      -- the turn stopped the run
      pub inputs_stop : {end : End} → Turns came w (Err end) after → Done b (Err end) after
      inputs_stop turn =
          let t = taken refl in
          let rest = inputs_from n m o (next_inputs said) in
          let has = has_stopped said came turn.answered in
          reached_stop t.front rest (rw t.split at at.reached) (rw t.comes turn.leaves) (rw t.comes has)

      module _ {d : Descendants} (turn : Turns came w (Ok d) after) where
        same_said : d ≡ said
        same_said = said_so came turn.answered

        pub fewer_left : length (inputs_from n m o (next_inputs d)) < length (inputs_from n m o i)
        fewer_left =
            let t = taken same_said in
            rw t.split (omega (arith, t.some, length-append t.front (inputs_from n m o (next_inputs d))))

        -- the run goes on
        pub inputs_on : InputsLeft b n m o (next_inputs d) after
        inputs_on =
            let t = taken same_said in
            let rest = inputs_from n m o (next_inputs d) in
            let has = goes_on said came turn.answered in
            let reached : Reached b (t.front ++ rest) w = rw t.split at at.reached in
            let left : Leaves (over b t.front w) w after = rw t.comes turn.leaves in
            record {
              set = t.kind;
              reached = reached_on t.front rest reached left (rw t.comes has) (rw t.comes t.clear);
              countable = omega (arith, visits_left t.front rest reached left, at.countable, ap length t.split);
            }
