-- Refusal 7 of a list of words: the first word that stands for no place decides, with its index;
-- there is none exactly where each word stands for a place.
-- Assumes nothing.
use Rattle.std.specs.Prelude.{Option, None, Some, option_map}
use Rattle.std.specs.List.{position, position_from}
use Rattle.std.proofs.lemmas.Iterator.Adapters.{position_from-zero}
use Prim.Native.Nat.{ℕ, suc}
use native.Mathlib.Numerals.{add-one}
use mathlib.Core.Path.{◌≡◌, refl, sym, ◌∙◌}
use mathlib.Core.Bool.{Bool, true, not, false}
use mathlib.Core.List.{List, [], ◌∷◌}
use borrow.Author.Tests.{not-false}
use Rattle.foundation.proofs.laws.Booleans.{by_test}
use Rattle.foundation.specs.Lists.{Each, each_nil, each_cons}
use Rattle.limits.specs.declared.Refusal.TheVariants.{InvalidPlace, BufferTooSmall}
use Rattle.limits.specs.Refusals.{given, first_refusal}
use Rattle.limits.specs.Settings.{most_activities}
use Rattle.limits.proofs.laws.FirstOf.{given_none, only_one, first_none}
use Rattle.places.specs.Places.{place_of, place_under, place_fault, words_fault, words_refusal}

-- a word stands for a place that a call without settings takes
abbrev pub valid : ℕ → Bool
valid w = place_under most_activities (place_of w)

fault_position : (index : ℕ) (words : List ℕ)
    → words_fault index words ≡ option_map (λ i. InvalidPlace i) (position_from (λ w. not (valid w)) index words)
unfolding words_fault place_fault
fault_position index [] = refl
fault_position index (w ∷ ws) =
    by_test (valid w) (λ e. rw (e, only_one (words_fault (suc index) ws), add-one index) (fault_position (suc index) ws)) (λ e. rw e refl)

-- the fault of a list is that of the first word that stands for no place, if there is one
pub first_fault : (words : List ℕ) (found : Option ℕ) → found ≡ position (λ w. not (place_under most_activities (place_of w))) words
    → words_fault 0 words ≡ option_map (λ i. InvalidPlace i) found
first_fault words found e = rw (e, position_from-zero (λ w. not (valid w)) words) (fault_position 0 words)

-- the refusal is the list's fault, if it has one, and else that of the room
module _ (words : List ℕ) (short : Bool) where
  pub invalid_refused : (i : ℕ) → Some i ≡ position (λ w. not (place_under most_activities (place_of w))) words
      → words_refusal words short ≡ Some (InvalidPlace i)
  unfolding words_refusal first_refusal
  invalid_refused i e = rw (first_fault words (Some i) e) refl

  pub room_decides : None ≡ position (λ w. not (place_under most_activities (place_of w))) words
      → words_refusal words short ≡ given short BufferTooSmall
  unfolding words_refusal first_refusal
  room_decides e = rw (first_fault words None e) (by_test short (λ t. rw t refl) (λ t. rw t refl))

  -- a call that is not refused has room, and no fault
  pub has_room : words_refusal words short ≡ None → (words_fault 0 words ≡ None) × (short ≡ false)
  unfolding words_refusal first_refusal
  has_room e =
      let both = first_none (words_fault 0 words) (None ∷ given short BufferTooSmall ∷ None ∷ None ∷ None ∷ []) e in
      (both.0, given_none short BufferTooSmall (first_none (given short BufferTooSmall) (None ∷ None ∷ None ∷ []) both.1).0)

-- what the check of a list needs
pub ruleset list_checks = (invalid_refused, room_decides)

-- each word of a list without a fault stands for a place
pub all_valid : (index : ℕ) (words : List ℕ) → words_fault index words ≡ None → Each (λ (w : ℕ). valid w ≡ true) words
unfolding words_fault place_fault
all_valid index [] e = each_nil
all_valid index (w ∷ ws) e =
    let both = first_none (place_fault most_activities index (place_of w)) (words_fault (suc index) ws ∷ []) e in
    each_cons (not-false (valid w) (given_none (not (valid w)) (InvalidPlace index) both.0))
    (all_valid (suc index) ws (sym (only_one (words_fault (suc index) ws)) ∙ both.1))

-- and a list of such words has no fault
pub valid_no_fault : (index : ℕ) {words : List ℕ} → Each (λ (w : ℕ). valid w ≡ true) words → words_fault index words ≡ None
unfolding words_fault place_fault
valid_no_fault index each_nil = refl
valid_no_fault index (each_cons here later) = rw (here, valid_no_fault (suc index) later)
