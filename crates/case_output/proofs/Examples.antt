-- Which words and bytes are written together, tried on short lists and at the largest word.
-- Assumes nothing.
use mathlib.Core.Path.{◌≡◌, refl}
use mathlib.Core.List.{[], ◌∷◌}
use Rattle.case_notation.proofs.Opened.{opened}
use Rattle.case_output.specs.Together.{progression, together}

-- equal and rising words, three or more and fewer; words that fall; nothing follows the largest
pub record TogetherExamples : Type 0 where
  pub three_equal : together 0 (7 ∷ 7 ∷ 7 ∷ 8 ∷ []) ≡ 3
  pub two_equal : together 0 (7 ∷ 7 ∷ 8 ∷ []) ≡ 1
  pub four_rise : together 1 (7 ∷ 8 ∷ 9 ∷ 10 ∷ 12 ∷ []) ≡ 4
  pub two_rise : together 1 (7 ∷ 8 ∷ 8 ∷ []) ≡ 1
  pub none_rise : together 1 (9 ∷ 8 ∷ 7 ∷ []) ≡ 1
  pub largest : together 1 (4294967294 ∷ 4294967295 ∷ 0 ∷ []) ≡ 1
  pub equal_bytes : progression 0 (126 ∷ 126 ∷ 10 ∷ []) ≡ 2
  pub no_bytes : progression 0 [] ≡ 0

pub together_examples : TogetherExamples
unfolding opened
together_examples =
    record {
      three_equal = refl;
      two_equal = refl;
      four_rise = refl;
      two_rise = refl;
      none_rise = refl;
      largest = refl;
      equal_bytes = refl;
      no_bytes = refl;
    }
