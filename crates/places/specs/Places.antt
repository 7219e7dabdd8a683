-- Places, their 32-bit words, and how two places relate. Document 01, "Tokens in one trace" and
-- "Candidates and their order"; the source's Definitions 3, 8 and 10.
-- Assumes nothing.
use Rattle.std.specs.Prelude.{ℕ, suc, ◌+◌, ◌*◌, ◌/◌, ◌%◌, ◌^◌, Bool, not, ◌&&◌, List, [], ◌∷◌, eqb, ltb, Option, None}
use Rattle.limits.specs.declared.Refusal.{Refusal}
use Rattle.limits.specs.declared.Refusal.TheVariants.{InvalidPlace, BufferTooSmall}
use Rattle.limits.specs.Refusals.{given, first_of, first_refusal}
use Rattle.limits.specs.Settings.{most_activities}
use Rattle.places.specs.declared.Place.{Place}
use Rattle.places.specs.Sets.{within, disjoint, union}

-- the place with these inputs and outputs
abbrev pub place : ℕ → ℕ → Place
place inputs outputs = record { inputs = inputs; outputs = outputs }

-- what a set of outputs counts for in a word: 2 to the power 16
abbrev pub output_unit : ℕ
output_unit = 65536

-- the 32-bit word of a place (document 01, "The walk")
unfoldable pub word : Place → ℕ
word p = p.inputs + output_unit * p.outputs

-- the place that a list word stands for
unfoldable pub place_of : ℕ → Place
place_of w = place (w % output_unit) (w / output_unit)

-- a through place has inputs and outputs (Definition 3)
unfoldable pub through : Place → Bool
through p = not (eqb p.inputs 0) && not (eqb p.outputs 0)

-- the set names no code of A or more
unfoldable pub below : ℕ → ℕ → Bool
below A s = ltb s (2 ^ A)

-- a place that a call under the activity bound A takes
unfoldable pub place_under : ℕ → Place → Bool
place_under A p = through p && below A p.inputs && below A p.outputs

-- number 7, no place, with the index of the place, 0 for one that stands alone
unfoldable pub place_fault : ℕ → ℕ → Place → Option Refusal
place_fault A index p = given (not (place_under A p)) (InvalidPlace index)

-- number 7 of a list's words, counted from `index`
unfoldable pub words_fault : ℕ → List ℕ → Option Refusal
words_fault index [] = None
words_fault index (w ∷ ws) = first_of (place_fault most_activities index (place_of w) ∷ words_fault (suc index) ws ∷ [])

-- the refusal of a call that takes no settings and is lent a list of words and a buffer to be
-- written: 7, then 8, cramped, where the buffer is too short
unfoldable pub words_refusal : List ℕ → Bool → Option Refusal
words_refusal words short =
    first_refusal
    (record {
      settings = None;
      arguments = None;
      places = words_fault 0 words;
      map = None;
      room = given short BufferTooSmall;
      emptiness = None;
      lines = None;
      result_room = None;
    })

-- at least as light (Definition 10): the inputs of p are among those of q, and the outputs of q
-- among those of p
unfoldable pub lighter : Place → Place → Bool
lighter p q = within p.inputs q.inputs && within q.outputs p.outputs

-- two places are non-overlapping (Definition 8): they have no input and no output in common
unfoldable pub non_overlapping : Place → Place → Bool
non_overlapping p q = disjoint p.inputs q.inputs && disjoint p.outputs q.outputs

-- the union of two places (Definition 8): the inputs of both and the outputs of both
unfoldable pub join : Place → Place → Place
join p q = place (union p.inputs q.inputs) (union p.outputs q.outputs)
