-- Whether a place is a union, as the exact cover problem that the code solves: take words of the
-- list away from the whole, one after the other, until nothing is left. Over list words, in which
-- the inputs and the outputs are one set of 32 activities. Document 01, "Some places and their
-- forms".
-- Assumes nothing.
use Rattle.std.specs.Prelude.{ℕ, ◌-◌, ◌*◌, ◌/◌, ◌%◌, ◌≡◌, Bool, true, not, ◌&&◌, eqb, leb, length}
use mathlib.Core.List.{List, Memᴰ}
use Rattle.std.specs.Int.Bits.{bit_and}
use Rattle.std.specs.Int.Count.{ones}
use Rattle.foundation.specs.Lists.{Each}
use Rattle.std.specs.List.{list_any, filter}
use Rattle.limits.specs.Settings.{most_activities}
use Rattle.places.specs.Sets.{member}
use Rattle.places.specs.Places.{output_unit, place_of, place_under}

-- each word stands for a place that a call without settings takes
unfoldable pub Listable : List ℕ → Type 0
Listable words = Each (λ (w : ℕ). place_under most_activities (place_of w) ≡ true) words

-- a word can be the next part of what is left of a whole: all its activities are left, and it is
-- not the whole itself
unfoldable pub usable : ℕ → ℕ → ℕ → Bool
usable whole left w = eqb (bit_and w left) w && not (eqb w whole)

-- what is left of a whole can be covered by words of the list that share no activity
pub data Cover (words : List ℕ) (whole : ℕ) : ℕ → Type 0 where
  nothing_left : Cover words whole 0
  take_part : {left : ℕ} (w : ℕ) → Memᴰ w words → usable whole left w ≡ true → Cover words whole (left - w) → Cover words whole left

-- the words of the list that can be parts of what is left of a whole
unfoldable pub parts_of : List ℕ → ℕ → ℕ → List ℕ
parts_of words whole left = filter (usable whole left) words

-- how many words of the list can be the next part and cover an activity
unfoldable pub choices : List ℕ → ℕ → ℕ → ℕ → ℕ
choices words whole left activity = length (filter (λ (w : ℕ). usable whole left w && member w activity) words)

-- how many inputs and outputs a word has
abbrev pub input_count : ℕ → ℕ
input_count w = ones (w % output_unit)

abbrev pub output_count : ℕ → ℕ
output_count w = ones (w / output_unit)

-- the word has at least, and at most, as many inputs for each output as what is left
unfoldable pub many_inputs : ℕ → ℕ → Bool
many_inputs left w = leb (input_count left * output_count w) (input_count w * output_count left)

unfoldable pub few_inputs : ℕ → ℕ → Bool
few_inputs left w = leb (input_count w * output_count left) (input_count left * output_count w)

-- of the words that can be the next part, not all have too few inputs for their outputs, and not
-- all too many
unfoldable pub balanced : List ℕ → ℕ → ℕ → Bool
balanced words whole left =
    list_any (λ (w : ℕ). usable whole left w && many_inputs left w) words && list_any (λ (w : ℕ). usable whole left w && few_inputs left w) words
