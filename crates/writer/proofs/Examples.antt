-- The definitions of the writer, tried on small lists.
-- Assumes nothing.
use Rattle.std.specs.Prelude.{Ok, Err}
use Prim.Native.Nat.{ℕ}
use mathlib.Core.Path.{◌≡◌, refl}
use mathlib.Core.List.{List, [], ◌∷◌}
use lib.ListN.{replicate}
use Rattle.foundation.specs.Text.{bytes}
use Rattle.limits.specs.declared.Refusal.TheVariants.{InvalidPlace, BufferTooSmall}
use Rattle.writer.specs.Writing.{written, written_after}
use Rattle.writer.proofs.Opened.{opened}

-- 0001/0002, FFFE/00A0
abbrev words : List ℕ
words = 0x00020001 ∷ 0x00A0FFFE ∷ []

pub record WritingExamples : Type 0 where
  pub answers : written words 18 ≡ Ok 18
  pub lines : written_after words (replicate 20 33) ≡ bytes "00010002\nFFFE00A0\n!!"
  pub none : written [] 0 ≡ Ok 0
  pub too_short : written words 17 ≡ Err BufferTooSmall
  pub place_before_room : written (0x00020001 ∷ 0x00A00000 ∷ []) 0 ≡ Err (InvalidPlace 1)
  pub refused_as_found : written_after words (1 ∷ 2 ∷ []) ≡ 1 ∷ 2 ∷ []

pub writing_examples : WritingExamples
unfolding opened
writing_examples =
    record {
      answers = refl;
      lines = refl;
      none = refl;
      too_short = refl;
      place_before_room = refl;
      refused_as_found = refl;
    }
