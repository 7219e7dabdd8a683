-- Laws of an exact cover, for the search that looks for one. Every activity that is left is covered
-- by some part, and the parts can be taken away in any order, so it is enough to try the words that
-- cover one activity. Where no word does, there is no cover; and since every word has inputs and
-- outputs, there is none where only inputs or only outputs are left. Taking a word away leaves
-- fewer activities.
-- Assumes nothing.
use Prim.Native.Nat.{ℕ, ◌-◌, ◌/◌, ◌%◌, ◌^◌, ◌≤◌, ◌<◌}
use native.Mathlib.Omega.{arith}
use native.Mathlib.Nat.{zero-div}
use mathlib.Core.Path.{◌≡◌, refl, sym, subst, ◌∙◌}
use mathlib.Core.Bool.{true, false≢true, not, and-eq-true_iff}
use mathlib.Core.List.{List, Memᴰ}
use lib.Bits.{bit_and}
use lib.Count.{ones}
use lib.Dec.{eqb}
use lib.ListN.{length}
use borrow.Author.Tests.{eqb-true, eqb-false, eq-eqb, ne_eqb, not-true}
use Rattle.foundation.proofs.laws.Booleans.{by_test}
use Rattle.foundation.proofs.laws.Members.{each_member, member_filter}
use Rattle.limits.specs.Settings.{most_activities}
use Rattle.places.specs.Sets.{has, member}
use Rattle.places.specs.Places.{place_of, place_under}
use Rattle.places.proofs.laws.Bounds.{no_inputs, no_outputs}
use Rattle.reduction_spec.specs.Cover.{Listable, usable, Cover, nothing_left, take_part, choices}
use Rattle.reduction_spec.proofs.laws.Parts.{Part, part_le, part_has, rest_part, parts_swap, part_ones, ones_some, part_halves}

-- a word can be taken away exactly if it is a part of what is left other than the whole
module _ (whole left w : ℕ) where
  pub usable_parts : usable whole left w ≡ true → Part w left × (w ≡ whole → ⊥)
  unfolding usable
  usable_parts u =
      let both = (and-eq-true_iff (eqb (bit_and w left) w) (not (eqb w whole))).0 u in
      (eqb-true (bit_and w left) w both.0, eqb-false w whole (not-true (eqb w whole) both.1))

  pub parts_usable : Part w left → (w ≡ whole → ⊥) → usable whole left w ≡ true
  unfolding usable
  parts_usable part other = rw (eq-eqb (bit_and w left) w part, ne_eqb w whole other)

  -- a word that can be taken away is no larger than what is left
  pub usable_le : usable whole left w ≡ true → w ≤ left
  usable_le u = part_le w left (usable_parts u).0

  -- and leaves fewer activities, where it has one
  pub usable_fewer : 0 < w → usable whole left w ≡ true → ones (left - w) < ones left
  usable_fewer some u = omega (arith, part_ones w left (usable_parts u).0, ones_some w some)

-- the word of a place has inputs and outputs
pub word_halves : (w : ℕ) → place_under most_activities (place_of w) ≡ true → (w % 65536 ≡ 0 → ⊥) × (w / 65536 ≡ 0 → ⊥)
unfolding place_of
word_halves w e = (
  λ none. false≢true (sym (no_inputs most_activities (place_of w) none) ∙ e),
  λ none. false≢true (sym (no_outputs most_activities (place_of w) none) ∙ e),
)

-- a list with a member has a length
member_length : {xs : List ℕ} {x : ℕ} → Memᴰ x xs → length xs ≡ 0 → ⊥
member_length (Memᴰ.head e) none = omega arith
member_length (Memᴰ.tail m) none = omega arith

module _ {words : List ℕ} {whole : ℕ} where
  -- of two parts the second can be taken away first
  pub second_first : (left w v : ℕ) → Memᴰ w words → usable whole left w ≡ true → usable whole (left - w) v ≡ true
      → Cover words whole (left - w - v) → (usable whole left v ≡ true) × Cover words whole (left - v)
  second_first left w v m u t rest =
      let first = usable_parts whole left w u in
      let second = usable_parts whole (left - w) v t in (
        parts_usable whole left v (rest_part w v left first.0 second.0) second.1,
        take_part
            w
            m
            (parts_usable whole (left - v) w (parts_swap w v left first.0 second.0) first.1)
            (subst (Cover words whole) (omega arith) rest),
      )

  -- some part covers an activity that is left, and can be taken away first
  pub covering_part : {left : ℕ} (a : ℕ) → has left a ≡ 1 → Cover words whole left
      → (w : ℕ) × Memᴰ w words × (usable whole left w ≡ true) × (has w a ≡ 1) × Cover words whole (left - w)
  covering_part a h nothing_left = absurd (omega (arith, zero-div (2 ^ a)))
  covering_part a h (take_part {left = left} w m u rest) =
      by_test
      (member w a)
      (λ e. (w, m, u, eqb-true (has w a) 1 e, rest))
      (λ e.
      let still : has (left - w) a ≡ 1 = omega (arith, part_has w left a (usable_parts whole left w u).0, eqb-false (has w a) 1 e) in
      let later = covering_part a still rest in
      let first = second_first left w later.0 m u later.2 later.4 in
      (later.0, later.1, first.0, later.3, first.1))

  -- an activity that no word covers
  pub uncoverable : {left : ℕ} (a : ℕ) → has left a ≡ 1 → choices words whole left a ≡ 0 → Cover words whole left → ⊥
  unfolding choices
  uncoverable a h none cover =
      let found = covering_part a h cover in
      member_length ((member_filter _ words).1 (found.1, rw (found.2, found.3))) none

  -- where something is left, both inputs and outputs are
  pub both_halves : {left : ℕ} → Listable words → Cover words whole left → (left ≡ 0 → ⊥) → (65536 ≤ left) × (left % 65536 ≡ 0 → ⊥)
  unfolding Listable
  both_halves places nothing_left some = absurd (some refl)
  both_halves places (take_part {left = left} w m u rest) some =
      let halves = part_halves w left (usable_parts whole left w u).0 in
      let own = word_halves w (each_member places m) in
      omega (arith, halves.0, halves.1, own.0, own.1)
