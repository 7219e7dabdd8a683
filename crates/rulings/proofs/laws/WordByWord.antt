-- Which way some words rule a candidate, found one word after the other: a word that rules it
-- overfed decides at once; else it is enough to know whether one so far ruled it underfed.
-- Assumes nothing.
use Rattle.std.specs.Prelude.{Option, None, Some}
use Prim.Native.Nat.{ℕ, suc, ◌+◌, ◌≤◌, ◌<◌}
use mathlib.Core.Path.{◌≡◌, refl}
use mathlib.Core.Bool.{Bool, true, false, cond, ◌||◌}
use mathlib.Core.List.{List}
use native.Mathlib.Numerals.{add-one}
use lib.ListN.{length, drop, get_or, drop_of_length-le}
use lib.Seq.{drop-cons}
use Rattle.std.specs.List.{list_any}
use Rattle.places.specs.declared.Place.{Place}
use Rattle.rulings.specs.declared.Ruling.{Ruling}
use Rattle.rulings.specs.declared.Ruling.TheVariants.{AsUnderfed, AsOverfed}
use Rattle.discovery_spec.specs.Rejected.{rules_underfed, rules_overfed, ruled_overfed}
use Rattle.rulings.specs.Rulings.{ruling_of}

module _ (c : Place) where
  -- the ruling by further words, where a word so far ruled c underfed or none did
  abbrev pub ruling_from : Bool → List ℕ → Option Ruling
  ruling_from underfed words =
      cond (list_any (rules_overfed c) words) (Some AsOverfed) (cond (underfed || list_any (rules_underfed c) words) (Some AsUnderfed) None)

  pub from_none : (words : List ℕ) → ruling_from false words ≡ ruling_of words c
  unfolding ruling_of ruled_overfed
  from_none words = refl

  -- the word at an index rules c overfed
  pub decides : (underfed : Bool) (words : List ℕ) (at : ℕ) → at < length words → rules_overfed c (get_or words at 0) ≡ true
      → Some AsOverfed ≡ ruling_from underfed (drop at words)
  decides underfed words at l e = rw (drop-cons words at 0 l, e)

  -- it does not: go on with the next word, knowing whether this one ruled c underfed
  pub next_word : (underfed : Bool) (words : List ℕ) (at : ℕ) → at < length words → rules_overfed c (get_or words at 0) ≡ false
      → ruling_from (underfed || rules_underfed c (get_or words at 0)) (drop (at + 1) words) ≡ ruling_from underfed (drop at words)
  next_word underfed words at l e = rw (add-one at, drop-cons words at 0 l, e) (go underfed)
    where
      go : (u : Bool)
          → ruling_from (u || rules_underfed c (get_or words at 0)) (drop (suc at) words)
          ≡ cond
          (list_any (rules_overfed c) (drop (suc at) words))
          (Some AsOverfed)
          (cond (u || (rules_underfed c (get_or words at 0) || list_any (rules_underfed c) (drop (suc at) words))) (Some AsUnderfed) None)
      go true = refl
      go false = refl

  -- no word is left
  pub no_word : (underfed : Bool) (words : List ℕ) (at : ℕ) (b : Bool) → length words ≤ at → underfed ≡ b
      → cond b (Some AsUnderfed) None ≡ ruling_from underfed (drop at words)
  no_word underfed words at true l e = rw (drop_of_length-le words l, e)
  no_word underfed words at false l e = rw (drop_of_length-le words l, e)
