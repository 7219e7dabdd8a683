-- Which way words rule a candidate, tried on few words.
-- Assumes nothing.
use Rattle.std.specs.Prelude.{None, Some}
use mathlib.Core.Path.{◌≡◌, refl}
use mathlib.Core.List.{[], ◌∷◌}
use Rattle.places.specs.Places.{place}
use Rattle.rulings.specs.declared.Ruling.TheVariants.{AsUnderfed, AsOverfed}
use Rattle.rulings.specs.Rulings.{ruling_of}
use Rattle.rulings.proofs.Opened.{opened}

pub record RulingExamples : Type 0 where
  -- no word rules; one does so from either side; where words rule it both ways, overfed is the
  -- answer
  pub no_word : ruling_of [] (place 1 2) ≡ None
  pub other_place : ruling_of (0x300080008 ∷ []) (place 5 6) ≡ None
  pub lighter : ruling_of (0x100020005 ∷ []) (place 5 6) ≡ Some AsUnderfed
  pub heavier : ruling_of (0x200060001 ∷ []) (place 5 6) ≡ Some AsOverfed
  pub both_ways : ruling_of (0x100020005 ∷ 0x200060001 ∷ []) (place 5 6) ≡ Some AsOverfed

pub ruling_examples : RulingExamples
unfolding opened
ruling_examples = record { no_word = refl; other_place = refl; lighter = refl; heavier = refl; both_ways = refl }
