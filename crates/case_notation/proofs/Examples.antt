-- The definitions of the table's notation, tried on small lines and at their edges.
-- Assumes nothing.
use Rattle.std.specs.Prelude.{◌==◌, ◌+◌, Some, None}
use mathlib.Core.Path.{◌≡◌, refl}
use mathlib.Core.List.{[], ◌∷◌}
use Rattle.foundation.specs.Text.{bytes}
use Rattle.case_notation.specs.Fields.{split_once, rest_after, word_at}
use Rattle.case_notation.specs.Numbers.{number_of, number_at}
use Rattle.case_notation.specs.Texts.{text_meant}
use Rattle.case_notation.specs.WordLists.{list_meant}
use Rattle.case_notation.specs.Runs.{run_length}
use Rattle.case_notation.proofs.Opened.{opened}

-- a word of a line, one that it lacks, what follows the words, and a text cut at a byte
pub record LineExamples : Type 0 where
  pub second_word : word_at 1 (bytes "check 6 0001") ≡ bytes "6"
  pub word_missing : word_at 3 (bytes "check 6 0001") ≡ []
  pub text_follows : rest_after 2 (bytes "check 6 01; 2*3") ≡ bytes "01; 2*3"
  pub cut_once : split_once 42 (bytes "3*0*") ≡ Some (bytes "3", bytes "0*")
  pub cut_nowhere : split_once 42 (bytes "30") ≡ None

pub line_examples : LineExamples
unfolding opened
line_examples =
    record {
      second_word = refl;
      word_missing = refl;
      text_follows = refl;
      cut_once = refl;
      cut_nowhere = refl;
    }

-- the largest number of 32 bits and larger ones, digits to two bases, and what is no number
pub record NumberExamples : Type 0 where
  pub largest : number_of 10 (bytes "4294967295") ≡ Some 4294967295
  pub too_large : number_of 10 (bytes "4294967296") ≡ None
  pub much_too_large : number_of 10 (bytes "42949672960") ≡ None
  pub hexadecimal : number_of 16 (bytes "0001FFFF") ≡ Some 131071
  pub no_letters : number_of 10 (bytes "0A") ≡ None
  pub no_digit : number_of 16 (bytes "1x") ≡ None
  pub digit_above : number_of 17 (bytes "1x") ≡ Some 33
  pub no_digits : number_of 10 [] ≡ None
  pub argument_read : number_at 2 (bytes "judge 6 419 x") ≡ Some 419

pub number_examples : NumberExamples
unfolding opened
number_examples =
    record {
      largest = refl;
      too_large = refl;
      much_too_large = refl;
      hexadecimal = refl;
      no_letters = refl;
      no_digit = refl;
      digit_above = refl;
      no_digits = refl;
      argument_read = refl;
    }

-- a text with a piece three times and bytes that stand for others, and one with copies of no bytes; a
-- list with a range, one that falls and what is no word; runs of equal and of rising words
pub record UnfoldingExamples : Type 0 where
  pub text_unfolds : text_meant (bytes "000 3*2; 1_^") ≡ bytes "0002\n2\n2\n1 \r"
  pub no_text : text_meant [] ≡ []
  pub no_bytes_copied : text_meant (bytes "7* 0") ≡ bytes "0"
  pub list_unfolds : list_meant (bytes "00020001 00000003-00000005 5-4 x") ≡ 131073 ∷ 3 ∷ 4 ∷ 5 ∷ 0 ∷ []
  pub three_equal : run_length (λ before word. before == word) (7 ∷ 7 ∷ 7 ∷ 8 ∷ []) ≡ 3
  pub two_rise : run_length (λ before word. before + 1 == word) (7 ∷ 8 ∷ 8 ∷ []) ≡ 2
  pub no_words : run_length (λ before word. before == word) [] ≡ 0

pub unfolding_examples : UnfoldingExamples
unfolding opened
unfolding_examples =
    record {
      text_unfolds = refl;
      no_text = refl;
      no_bytes_copied = refl;
      list_unfolds = refl;
      three_equal = refl;
      two_rise = refl;
      no_words = refl;
    }
