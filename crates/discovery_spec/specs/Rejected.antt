-- Words of rejected places, and the candidates that they rule. Document 01, "The walk", first two
-- paragraphs: its shelf words and their marks.
-- Assumes nothing.
use Rattle.std.specs.Prelude.{ℕ, ◌+◌, ◌*◌, ◌/◌, ◌%◌, Bool, ◌&&◌, ◌||◌, List, eqb}
use Rattle.std.specs.List.{list_any}
use Rattle.places.specs.declared.Place.{Place}
use Rattle.places.specs.Places.{word, place_of, lighter}
use Rattle.replay_spec.specs.declared.Verdict.{Verdict}
use Rattle.replay_spec.specs.Judgement.{mark}

-- what a mark counts for in a word: 2 to the power 32
abbrev pub mark_unit : ℕ
mark_unit = 4294967296

-- the 64-bit word of a rejected place, a shelf word of document 01: its list word, and the mark
-- above bit 31. A fitting place, of mark 0, is not rejected, and a word of that mark rules nothing
unfoldable pub rejected_word : Place → Verdict → ℕ
rejected_word p v = word p + mark_unit * mark v

-- the mark and the place of such a word
unfoldable pub mark_in : ℕ → ℕ
mark_in w = w / mark_unit

unfoldable pub place_in : ℕ → Place
place_in w = place_of (w % mark_unit)

-- the word w, of an underfed place, rules c underfed: c is at least as light
unfoldable pub rules_underfed : Place → ℕ → Bool
rules_underfed c w = (eqb (mark_in w) 1 || eqb (mark_in w) 3) && lighter c (place_in w)

-- the word w, of an overfed place, rules c overfed: the place is at least as light as c
unfoldable pub rules_overfed : Place → ℕ → Bool
rules_overfed c w = (eqb (mark_in w) 2 || eqb (mark_in w) 3) && lighter (place_in w) c

-- ruled overfed by some word of the cache
unfoldable pub ruled_overfed : List ℕ → Place → Bool
ruled_overfed rejected c = list_any (rules_overfed c) rejected

-- ruled by some word, either way
unfoldable pub ruled : List ℕ → Place → Bool
ruled rejected c = list_any (rules_underfed c) rejected || ruled_overfed rejected c
