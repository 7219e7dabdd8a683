-- The words of a log's frames, sorted: there are as many as frames, each below 2 to the power 128,
-- their lines are lines of the log, and no line has more cases than 2 to the power 32.
-- Assumes nothing.
use Prim.Native.Nat.{ℕ, ◌^◌, ◌≤◌, ◌<◌}
use native.Mathlib.Omega.{arith}
use mathlib.Core.Path.{◌≡◌, ap, ◌∙◌}
use mathlib.Core.List.{List, [], map}
use lib.Dec.{ltb}
use lib.ListN.{length, drop, length-drop, get_or-eq_default}
use borrow.Author.Tests.{ltb-true, ltb-false}
use Rattle.std.proofs.lemmas.List.{length-map}
use Rattle.std.proofs.lemmas.List.Sorted.{length_permutation}
use Rattle.foundation.specs.Lists.{Each, up_to}
use Rattle.foundation.proofs.laws.Booleans.{by_test}
use Rattle.foundation.proofs.laws.Each.{each_at, each_drop, each_map, each_up_to, length_up_to}
use Rattle.sorting.specs.Sorting.{sorted}
use Rattle.sorting.proofs.laws.Sorted.{sorted_moves, sorted_each}
use Rattle.limits.specs.Settings.{most_activities}
use Rattle.event_log_spec.specs.Frames.{Frame, FrameUnder, most_frames, frame_in}
use Rattle.variants_spec.specs.Variants.{tally, trace_in}
use Rattle.variants.proofs.laws.FrameWords.{number_small}
use Rattle.variants.proofs.laws.Tallying.{tally_bytes, tally_length}
use Rattle.variants.specs.Words.{number_of, line_room, frame_word, tally_in, line_in, word_of, frame_words}

-- a frame's word holds its line and its tally
module _ (counts : List ℕ) (line : ℕ) (less : line < line_room) where
  pub line_held : line_in (frame_word counts line) ≡ line
  unfolding frame_word
  line_held = omega (arith, less)

  pub tally_held : tally_in (frame_word counts line) ≡ number_of (drop 2 counts)
  unfolding frame_word
  tally_held = omega (arith, less)

-- what stands beyond the last frame
abbrev pub none : Frame
none = record { cases = 0; trace = [] }

module _ (frames : List Frame) (under : Each (FrameUnder most_activities) frames) where
  pub few_cases : (line : ℕ) → (frame_in frames line).cases ≤ 2 ^ 32
  few_cases line =
      by_test
      (ltb line (length frames))
      (λ t. omega (arith, (each_at line none under (ltb-true line (length frames) t)).countable))
      (λ f. omega (arith, ap (λ (frame : Frame). frame.cases) (get_or-eq_default frames none (ltb-false line (length frames) f))))

pub words_counted : (frames : List Frame) → length (sorted (frame_words frames)) ≡ length frames
unfolding frame_words
words_counted frames =
    length_permutation (map (word_of frames) (up_to (length frames))) (sorted (map (word_of frames) (up_to (length frames)))) (sorted_moves ltb (map (word_of frames) (up_to (length frames))))
    ∙ length-map (up_to (length frames)) (word_of frames)
    ∙ length_up_to (length frames)

-- what holds of the word of each line holds of each sorted word
pub each_word : {P : ℕ → Type 0} (frames : List Frame) → ((line : ℕ) → line < length frames → P (word_of frames line))
    → Each P (sorted (frame_words frames))
unfolding frame_words
each_word frames h = sorted_each ltb (each_map (word_of frames) (each_up_to (length frames) h))

module _ (frames : List Frame) (few : length frames ≤ most_frames) where
  pub lines_known : Each (λ (word : ℕ). line_in word < length frames) (sorted (frame_words frames))
  lines_known = each_word frames λ line less. omega (arith, line_held (tally (trace_in frames line)) line (omega (arith, less, few)), less)

  pub words_small : Each (FrameUnder most_activities) frames → Each (λ (word : ℕ). word < 2 ^ 128) (sorted (frame_words frames))
  unfolding frame_word
  words_small under =
      each_word frames λ line less.
      let counts = tally (trace_in frames line) in
      let small = number_small (each_drop 2 (tally_bytes (trace_in frames line) (each_at line none under less).short)) in
      let upper : number_of (drop 2 counts) < 256 ^ 14 = rw (length-drop 2 counts, tally_length (trace_in frames line)) at small in
      omega (arith, upper, less, few)
