-- The list of candidates holds exactly the candidates, each once and in the stated order. It is
-- made of every two sets of the two lists of sets, and a place is a candidate where each of its
-- sets is one that a candidate may have; so what those lists hold, their order and their length say
-- the same of this one.
-- Assumes nothing.
use Prim.Native.Nat.{ℕ, ◌*◌, ◌^◌, ◌<◌, ◌≤◌}
use native.Mathlib.Omega.{arith}
use native.Mathlib.Nat.{mul-le-mul}
use mathlib.Core.Path.{◌≡◌, refl, sym, ap}
use mathlib.Core.Logic.Iff
use mathlib.Core.Logic.{◌↔◌, inl, inr}
use mathlib.Core.Bool.{Bool, true, false, not, ◌&&◌, and-false, and-eq-true_iff}
use mathlib.Core.List.Memᴰ
use mathlib.Core.List.{List, map, Memᴰ}
use lib.Dec.{eqb, leb}
use lib.Pow.{pow_mono}
use lib.ListN.{length, length-map}
use Rattle.foundation.specs.Lists.{Each, Ordered}
use Rattle.foundation.proofs.laws.Lists.{length_flat_map}
use Rattle.foundation.proofs.laws.Each.{each_imply, each_map, each_flat_map}
use Rattle.foundation.proofs.laws.Members.{member_flat_map}
use Rattle.foundation.proofs.laws.Ordered.{ordered_imply, ordered_distinct, ordered_pairs}
use Rattle.limits.specs.declared.Settings.{Settings}
use Rattle.limits.specs.Settings.{most_activities}
use Rattle.places.specs.declared.Place.{Place}
use Rattle.places.specs.Sets.{size}
use Rattle.places.specs.Places.{place, through, below, place_under}
use Rattle.places.specs.Order.{PlaceBefore}
use Rattle.places.specs.Candidates.{candidate_set, candidate, sets, candidates}
use Rattle.candidate_order_spec.proofs.laws.SetList.{Listed, sets_listed, set_listed, fewer_sets}
use Rattle.places.proofs.laws.Bounds.{under_wider}
use Rattle.places.proofs.laws.StrictOrder.{place_irreflexive}
use Rattle.candidate_order_spec.proofs.laws.SetOrder.{sets_ascending}

-- three tests of each of two things, taken in turn or thing by thing
by_thing : (a b c d e f : Bool) → a && b && c && d && e && f ≡ (a && c && e && (b && d && f))
by_thing false b c d e f = refl
by_thing true false c d e f = sym (and-false (c && e))
by_thing true true false d e f = refl
by_thing true true true false e f = sym (and-false e)
by_thing true true true true e f = refl

-- a set of codes below n, which is 16 at most, is a number of 16 bits
sixteen_bits : (n s : ℕ) → n ≤ most_activities → s < 2 ^ n → s < 65536
sixteen_bits n s few small = omega (arith, pow_mono {i = n} {j = 16} few)

module _ (s : Settings) where
  -- the sets that may be a candidate's inputs, those that may be its outputs, and the candidates of
  -- given outputs
  abbrev input_sets : List ℕ
  input_sets = sets s.activities s.inputs

  abbrev output_sets : List ℕ
  output_sets = sets s.activities s.outputs

  abbrev with_outputs : ℕ → List Place
  with_outputs o = map (λ (i : ℕ). place i o) input_sets

  -- there are as many candidates as there are pairs of such sets
  pub candidates_length : length (candidates s) ≡ length (sets s.activities s.outputs) * length (sets s.activities s.inputs)
  unfolding candidates
  candidates_length = length_flat_map with_outputs (length input_sets) (λ o. length-map input_sets (λ (i : ℕ). place i o)) output_sets

  -- a place is in the list where its sets are in theirs
  pairs_listed : (p : Place) → Memᴰ p (candidates s) ↔ (Memᴰ p.inputs input_sets × Memᴰ p.outputs output_sets)
  unfolding candidates
  pairs_listed p = (λ at. parts ((member_flat_map with_outputs output_sets).0 at), λ both. (member_flat_map with_outputs output_sets).1 (whole both))
    where
      parts : (o : ℕ) × Memᴰ o output_sets × Memᴰ p (with_outputs o)
          → Memᴰ p.inputs input_sets × Memᴰ p.outputs output_sets
      parts found =
          let made = Memᴰ.of_map (λ (i : ℕ). place i found.0) input_sets found.2 in (
            Memᴰ.cast (sym (ap (λ (q : Place). q.inputs) made.2)) made.1,
            Memᴰ.cast (sym (ap (λ (q : Place). q.outputs) made.2)) found.1,
          )

      whole : Memᴰ p.inputs input_sets × Memᴰ p.outputs output_sets
          → (o : ℕ) × Memᴰ o output_sets × Memᴰ p (with_outputs o)
      whole both = (p.outputs, both.1, Memᴰ.map (λ (i : ℕ). place i p.outputs) both.0)

  -- a place is a candidate where each of its sets is one that a candidate may have
  module _ (p : Place) where
    abbrev inputs_pass : Bool
    inputs_pass = candidate_set s.activities s.inputs p.inputs

    abbrev outputs_pass : Bool
    outputs_pass = candidate_set s.activities s.outputs p.outputs

    by_sets : candidate s p ≡ (inputs_pass && outputs_pass)
    unfolding candidate candidate_set place_under through
    by_sets =
        by_thing
        (not (eqb p.inputs 0))
        (not (eqb p.outputs 0))
        (below s.activities p.inputs)
        (below s.activities p.outputs)
        (leb (size p.inputs) s.inputs)
        (leb (size p.outputs) s.outputs)

    sets_decide : ((inputs_pass ≡ true) × (outputs_pass ≡ true)) ↔ (candidate s p ≡ true)
    sets_decide = rw by_sets (Iff.symm (and-eq-true_iff inputs_pass outputs_pass))

  module _ (few : s.activities ≤ most_activities) where
    -- a candidate is a place that a call without settings takes
    pub candidate_under : (p : Place) → candidate s p ≡ true → place_under most_activities p ≡ true
    unfolding candidate
    candidate_under p e =
        let under = place_under s.activities p in
        let inputs = leb (size p.inputs) s.inputs in
        let both = (and-eq-true_iff (under && inputs) (leb (size p.outputs) s.outputs)).0 e in
        under_wider s.activities most_activities p few ((and-eq-true_iff under inputs).0 both.0).0

    -- the list holds exactly the candidates
    pub candidate_listed : (p : Place) → Memᴰ p (candidates s) ↔ (candidate s p ≡ true)
    candidate_listed p = Iff.trans (pairs_listed p) (Iff.trans both_listed (sets_decide p))
      where
        both_listed : (Memᴰ p.inputs input_sets × Memᴰ p.outputs output_sets) ↔ ((inputs_pass p ≡ true) × (outputs_pass p ≡ true))
        both_listed =
            Iff.and
            (set_listed s.activities s.inputs p.inputs few)
            (set_listed s.activities s.outputs p.outputs few)

    -- it is in the stated order
    pub candidates_ascending : Ordered PlaceBefore (candidates s)
    unfolding candidates PlaceBefore
    candidates_ascending =
        ordered_pairs
        (λ (o i : ℕ). place i o)
        input_sets
        (λ o. ordered_imply (λ i j h. inr (refl, h)) (sets_ascending s.activities s.inputs few))
        (λ o q h i j. inl h)
        (sets_ascending s.activities s.outputs few)

    -- so it holds each candidate once
    pub candidates_distinct : Ordered (λ (p q : Place). p ≡ q → ⊥) (candidates s)
    candidates_distinct = ordered_distinct place_irreflexive candidates_ascending

    -- each set of a candidate is a number of 16 bits
    pub candidates_bounded : Each (λ (p : Place). (p.inputs < 65536) × (p.outputs < 65536)) (candidates s)
    unfolding candidates
    candidates_bounded = each_flat_map with_outputs (each_imply of_outputs (sets_listed s.activities s.outputs))
      where
        of_outputs : (o : ℕ) → Listed s.activities s.outputs o
            → Each (λ (p : Place). (p.inputs < 65536) × (p.outputs < 65536)) (with_outputs o)
        of_outputs o k =
            each_map
            (λ (i : ℕ). place i o)
            (each_imply
            (λ i l. (sixteen_bits s.activities i few l.small, sixteen_bits s.activities o few k.small))
            (sets_listed s.activities s.inputs))

    -- and there are no more of them than pairs of such numbers without 0, 65535 times 65535
    pub fewer_candidates : length (candidates s) ≤ 4294836225
    fewer_candidates =
        rw candidates_length (mul-le-mul {n₁ = length output_sets} {n₂ = 65535} {m₂ = 65535} (at_most s.outputs) (at_most s.inputs))
      where
        at_most : (m : ℕ) → length (sets s.activities m) ≤ 65535
        at_most m = omega (arith, sixteen_bits s.activities (length (sets s.activities m)) few (fewer_sets s.activities m))
