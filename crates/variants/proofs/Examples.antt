-- The words of frames and variants, and how sorted words are gathered, tried on three frames: two
-- of one variant, in either order of their events, around one of another.
-- Assumes nothing.
use Prim.Native.Nat.{◌+◌, ◌-◌, ◌*◌, ◌^◌}
use mathlib.Core.Path.{◌≡◌, refl}
use mathlib.Core.List.{List, [], ◌∷◌, map}
use Rattle.sorting.specs.Sorting.{sorted}
use Rattle.event_log_spec.specs.Frames.{Frame}
use Rattle.event_log_spec.proofs.Examples.{frame}
use Rattle.variants_spec.specs.Summary.{summary}
use Rattle.variants_spec.proofs.Examples.{variant}
use Rattle.variants.specs.Words.{number_of, frame_word, tally_in, line_in, frame_words, variant_word, variant_in, entry_in}
use Rattle.variants.specs.Gathering.{gathered}
use Rattle.variants.proofs.Opened.{opened}

abbrev frames : List Frame
frames = frame 5 (0 ∷ 2 ∷ 3 ∷ 1 ∷ []) ∷ frame 9 (0 ∷ 2 ∷ 1 ∷ []) ∷ frame 4 (0 ∷ 3 ∷ 2 ∷ 1 ∷ []) ∷ []

pub record WordExamples : Type 0 where
  pub lowest_first : number_of (2 ∷ 1 ∷ []) ≡ 258
  -- the counts of 0 and 1 are left out
  pub of_a_frame : frame_word (1 ∷ 1 ∷ 2 ∷ 1 ∷ []) 7 ≡ 258 * 65536 + 7
  pub holds_tally : tally_in (258 * 65536 + 7) ≡ 258
  pub holds_line : line_in (258 * 65536 + 7) ≡ 7
  pub of_frames : frame_words frames ≡ (257 * 65536) ∷ (1 * 65536 + 1) ∷ (257 * 65536 + 2) ∷ []
  pub of_a_variant : variant_word (variant 1 2 (2 ^ 64 - 4)) ≡ 3 * 2 ^ 32 + 1 * 65536 + 2
  pub read_back : variant_in (3 * 2 ^ 32 + 1 * 65536 + 2) ≡ variant 1 2 (2 ^ 64 - 4)
  pub as_entry : entry_in (variant_word (variant 1 2 7)) ≡ 1 ∷ 2 ∷ 7 ∷ []

-- both variants have 9 cases, so the earlier first line leads
pub record GatheringExamples : Type 0 where
  pub by_tally : gathered frames (sorted (frame_words frames)) ≡ variant 1 1 9 ∷ variant 0 2 9 ∷ []
  pub by_lead : sorted (map variant_word (variant 1 1 9 ∷ variant 0 2 9 ∷ [])) ≡ map variant_word (summary frames)
  pub summarized : summary frames ≡ variant 0 2 9 ∷ variant 1 1 9 ∷ []

pub word_examples : WordExamples
unfolding opened
word_examples =
    record {
      lowest_first = refl;
      of_a_frame = refl;
      holds_tally = refl;
      holds_line = refl;
      of_frames = refl;
      of_a_variant = refl;
      read_back = refl;
      as_entry = refl;
    }

pub gathering_examples : GatheringExamples
unfolding opened
gathering_examples = record { by_tally = refl; by_lead = refl; summarized = refl }
