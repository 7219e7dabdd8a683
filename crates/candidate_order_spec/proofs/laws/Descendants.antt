-- A descendant of a candidate is at least as heavy as it: it has the same outputs and more inputs.
-- A descendant of a descendant is a descendant: an input that it has more than the first candidate
-- is either one that the second already has, or above all inputs of the second, among which are
-- those of the first.
-- Assumes nothing.
use Prim.Native.Nat.{ℕ, ◌<◌}
use native.Mathlib.Omega.{arith}
use mathlib.Core.Path.{◌≡◌, ◌∙◌}
use mathlib.Core.Bool.{Bool, true, not, ◌&&◌, and-eq-true_iff}
use lib.Dec.{eqb, ltb}
use lib.ListN.{length}
use borrow.Author.Tests.{eqb-true, eq-eqb, lt-ltb, ltb-true}
use Rattle.foundation.specs.Lists.{up_to}
use Rattle.std.specs.List.{filter, list_all}
use Rattle.foundation.proofs.laws.Booleans.{by_test}
use Rattle.foundation.proofs.laws.Each.{all_filter, all_kept, each_up_to, up_to_each}
use Rattle.foundation.proofs.laws.Filtering.{filter_twice, filter_fewer}
use Rattle.limits.specs.Settings.{most_activities}
use Rattle.places.specs.declared.Place.{Place}
use Rattle.places.specs.Sets.{member, codes, within}
use Rattle.places.specs.Places.{lighter}
use Rattle.places.specs.Candidates.{added, extends, descends}
use Rattle.places.proofs.laws.Lighter.{codes_all, within_member, within_refl, within_trans, sets_lighter}

-- code a is in j and not in i
is_added : ℕ → ℕ → ℕ → Bool
is_added i j a = member j a && not (member i a)

-- code a is above all codes of i
above : ℕ → ℕ → Bool
above i a = list_all (λ (b : ℕ). ltb b a) (codes i)

-- what it means that j is i with codes added above its own
record Extension (i j : ℕ) : Type 0 where
  inside : within i j ≡ true
  some_added : 0 < length (filter (is_added i j) (up_to most_activities))
  added_above : (a : ℕ) → a < most_activities → is_added i j a ≡ true → above i a ≡ true

added_codes : (i j : ℕ) → added i j ≡ filter (is_added i j) (up_to most_activities)
unfolding added codes is_added
added_codes i j = filter_twice (λ (a : ℕ). not (member i a)) (member j) (up_to most_activities)

extends_parts : (i j : ℕ) → extends i j ≡ true → Extension i j
unfolding extends above
extends_parts i j e =
    let some = ltb 0 (length (added i j)) in
    let outer = (and-eq-true_iff (within i j && some) (list_all (above i) (added i j))).0 e in
    let inner = (and-eq-true_iff (within i j) some).0 outer.0 in
    record {
      inside = inner.0;
      some_added = rw added_codes at (ltb-true 0 (length (added i j)) inner.1);
      added_above = up_to_each most_activities (all_filter (above i) (is_added i j) (up_to most_activities) (rw added_codes at outer.1));
    }

parts_extend : (i j : ℕ) → Extension i j → extends i j ≡ true
unfolding extends above
parts_extend i j x =
    rw (x.inside, added_codes i j, lt-ltb 0 (length (filter (is_added i j) (up_to most_activities))) x.some_added)
    (all_kept (above i) (is_added i j) (each_up_to most_activities x.added_above))

-- a code above all of a set is above all of a set within it
above_within : (i j a : ℕ) → within i j ≡ true → above j a ≡ true → above i a ≡ true
unfolding above
above_within i j a e h =
    (codes_all (λ (b : ℕ). ltb b a) i).1 (λ b l m. (codes_all (λ (c : ℕ). ltb c a) j).0 h b l ((within_member i j).0 e b l m))

module _ (i j k : ℕ) (first : Extension i j) (second : Extension j k) where
  still_added : (a : ℕ) → a < most_activities → is_added i j a ≡ true → is_added i k a ≡ true
  unfolding is_added
  still_added a l e =
      let parts = (and-eq-true_iff (member j a) (not (member i a))).0 e in
      (and-eq-true_iff (member k a) (not (member i a))).1 ((within_member j k).0 second.inside a l parts.0, parts.1)

  all_above : (a : ℕ) → a < most_activities → is_added i k a ≡ true → above i a ≡ true
  unfolding is_added
  all_above a l e =
      let parts = (and-eq-true_iff (member k a) (not (member i a))).0 e in
      by_test
      (member j a)
      (λ in_j. first.added_above a l (rw (in_j, parts.1)))
      (λ not_in_j. above_within i j a first.inside (second.added_above a l (rw (parts.0, not_in_j))))

  extends_both : Extension i k
  extends_both =
      record {
        inside = within_trans i j k first.inside second.inside;
        some_added = omega (arith, first.some_added, filter_fewer (is_added i j) (is_added i k) (each_up_to most_activities still_added));
        added_above = all_above;
      }

extends_trans : (i j k : ℕ) → extends i j ≡ true → extends j k ≡ true → extends i k ≡ true
extends_trans i j k e f = parts_extend i k (extends_both i j k (extends_parts i j e) (extends_parts j k f))

descends_parts : (c d : Place) → descends c d ≡ true → (c.outputs ≡ d.outputs) × (extends c.inputs d.inputs ≡ true)
unfolding descends
descends_parts c d e =
    let parts = (and-eq-true_iff (eqb c.outputs d.outputs) (extends c.inputs d.inputs)).0 e in
    (eqb-true c.outputs d.outputs parts.0, parts.1)

-- a candidate is at least as light as its descendants
pub descends_lighter : (c d : Place) → descends c d ≡ true → lighter c d ≡ true
descends_lighter c d e =
    let parts = descends_parts c d e in
    sets_lighter
    c
    d
    (extends_parts c.inputs d.inputs parts.1).inside
    (rw parts.0 (within_refl d.outputs))

pub descends_trans : (c d e : Place) → descends c d ≡ true → descends d e ≡ true → descends c e ≡ true
unfolding descends
descends_trans c d e f g =
    let first = descends_parts c d f in
    let second = descends_parts d e g in
    rw
    (eq-eqb c.outputs e.outputs (first.0 ∙ second.0))
    (extends_trans c.inputs d.inputs e.inputs first.1 second.1)
