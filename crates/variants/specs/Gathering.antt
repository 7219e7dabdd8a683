-- The variants of sorted frames' words: equal tallies stand together, so the words are gathered
-- from the last to the first, each into the variant of the word after it or into a new one.
-- Assumes nothing.
use Rattle.std.specs.Prelude.{ℕ, ◌+◌, ◌-◌, ◌^◌, cond, List, [], ◌∷◌, eqb, drop}
use Rattle.event_log_spec.specs.Frames.{Frame, frame_in}
use Rattle.variants_spec.specs.declared.Variant.{Variant}
use Rattle.variants.specs.Words.{tally_in, line_in}

-- before the first frame of a variant
abbrev pub no_frames : Variant
no_frames = record { first_line = 0; frames = 0; cases = 0 }

abbrev pub first_variant : List Variant → Variant
first_variant [] = no_frames
first_variant (v ∷ variants) = v

-- the tally of the first word; of none, a number that is no tally
abbrev pub no_tally : ℕ
no_tally = 2 ^ 128 - 1

abbrev pub first_tally : List ℕ → ℕ
first_tally [] = no_tally
first_tally (word ∷ words) = tally_in word

module _ (frames : List Frame) where
  -- one frame more, whose line comes before those of the variant's other frames
  unfoldable pub with_line : ℕ → Variant → Variant
  with_line line v =
      record {
        first_line = line;
        frames = v.frames + 1;
        cases = v.cases + (frame_in frames line).cases;
      }

  unfoldable pub gathered : List ℕ → List Variant
  gathered [] = []
  gathered (word ∷ words) =
      cond
      (eqb (tally_in word) (first_tally words))
      (with_line (line_in word) (first_variant (gathered words)) ∷ drop 1 (gathered words))
      (with_line (line_in word) no_frames ∷ gathered words)
