-- The words of a log's frames, sorted and gathered, give the log's variants in some order. A word's
-- tally says all of a trace but how often its endpoints occur, which is once; so words have one
-- tally exactly where their lines are of one variant, and what a word stands for among the sorted
-- words is the variant of its line.
-- Assumes nothing.
use Prim.Native.Nat.{ℕ, zero, suc, ◌+◌, ◌-◌, ◌≤◌, ◌<◌}
use native.Mathlib.Omega.{arith}
use mathlib.Core.Path.{◌≡◌, refl, ap, ap₂, sym, ◌∙◌}
use mathlib.Core.Bool.{Bool, true, false, cond, not, and-eq-true_iff, true≢false}
use mathlib.Core.List.{List, [], ◌∷◌, map, map-map}
use lib.Dec.{eqb, ltb}
use lib.ListN.{length, drop, get_or, length-append, length-drop}
use borrow.Author.Tests.{eqb-true, eq-eqb, ne_eqb, lt-ltb, ltb-true, ltb-false}
use Rattle.std.specs.List.{filter, list_any}
use Rattle.std.proofs.lemmas.List.{get_or-drop}
use Rattle.std.proofs.lemmas.List.Sorted.{list_any-IsPermutation}
use Rattle.std.proofs.lemmas.List.Elements.{filter-append}
use Rattle.foundation.specs.Lists.{Each, Ordered, up_to, sum}
use Rattle.foundation.proofs.laws.Booleans.{by_test, same_truth, same_false}
use Rattle.foundation.proofs.laws.Lists.{map_same, numbered_at}
use Rattle.foundation.proofs.laws.Each.{each_imply, each_at, each_unmap, each_up_to, up_to_each, filter_none, each_drop, none_each, each_none}
use Rattle.foundation.proofs.laws.Ordered.{ordered_among, ordered_map, up_to_ordered}
use Rattle.foundation.proofs.laws.Sums.{sum_filter}
use Rattle.sorting.specs.Sorting.{sorted}
use Rattle.sorting.proofs.laws.Sorted.{sorted_moves, sorted_ordered}
use Rattle.sorting.proofs.laws.SameSums.{SameSums, moved_sums}
use Rattle.limits.specs.Settings.{most_activities}
use Rattle.event_log_spec.specs.Frames.{Frame, FrameUnder, Behaviour, most_frames, frame_in}
use Rattle.variants_spec.specs.declared.Variant.{Variant}
use Rattle.variants_spec.specs.Variants.{occurrences, tally, same_variant, trace_in, alike, is_first, variant_of, variants}
use Rattle.variants_spec.proofs.laws.SameVariants.{counts_same, tallies_decide}
use Rattle.variants_spec.proofs.laws.Summing.{firsts, frames_counted, cases_counted}
use Rattle.variants.specs.Words.{number_of, tally_in, line_in, word_of, frame_words}
use Rattle.variants.specs.Gathering.{gathered}
use Rattle.variants.proofs.laws.FrameWords.{number_once}
use Rattle.variants.proofs.laws.Tallying.{tally_bytes, tally_length}
use Rattle.variants.proofs.laws.LogWords.{none, line_held, tally_held, each_word, words_small}
use Rattle.variants.proofs.laws.Runs.{same_tally, earlier, variant_at, is_first_word, gathered_runs}

-- the endpoints of a trace occur once
module _ {trace : List ℕ} (b : Behaviour trace) where
  inside_not : (a : ℕ) → a < 2 → occurrences b.between a ≡ 0
  unfolding occurrences
  inside_not a less = ap length (filter_none (eqb a) (each_imply (λ c inside. ne_eqb a c (λ same. absurd (omega (arith, inside, less, same)))) b.neither))

  start_once : occurrences trace 0 ≡ 1
  unfolding occurrences
  start_once =
      ap (λ (t : List ℕ). length (filter (eqb 0) t)) b.ends
      ∙ ap (λ (t : List ℕ). suc (length t)) (filter-append (eqb 0) b.between (1 ∷ []))
      ∙ omega (arith, length-append (filter (eqb 0) b.between) [], inside_not 0 (omega arith))

  end_once : occurrences trace 1 ≡ 1
  unfolding occurrences
  end_once =
      ap (λ (t : List ℕ). length (filter (eqb 1) t)) b.ends
      ∙ ap length (filter-append (eqb 1) b.between (1 ∷ []))
      ∙ omega (arith, length-append (filter (eqb 1) b.between) (1 ∷ []), inside_not 1 (omega arith))

-- two traces whose other activities occur equally often are of one variant, and the other way about
upper_at : (trace : List ℕ) (a : ℕ) → 2 ≤ a → a < most_activities → get_or (drop 2 (tally trace)) (a - 2) 0 ≡ occurrences trace a
unfolding tally
upper_at trace a upper less =
    let whole : 2 + (a - 2) ≡ a = omega (arith, upper) in
    get_or-drop 2 (tally trace) (a - 2) 0 ∙ ap (λ (n : ℕ). get_or (tally trace) n 0) whole ∙ numbered_at (occurrences trace) most_activities a less

module _ {s t : List ℕ} (b : Behaviour s) (b' : Behaviour t) where
  pub upper_same : drop 2 (tally s) ≡ drop 2 (tally t) → same_variant s t ≡ true
  upper_same same = counts_same s t equal
    where
      endpoint : (a : ℕ) → a < 2 → occurrences s a ≡ occurrences t a
      endpoint zero less = start_once b ∙ sym (start_once b')
      endpoint (suc zero) less = end_once b ∙ sym (end_once b')
      endpoint (suc (suc a)) less = absurd (omega (arith, less))

      equal : (a : ℕ) → a < most_activities → occurrences s a ≡ occurrences t a
      equal a less =
          by_test
          (ltb a 2)
          (λ l. endpoint a (ltb-true a 2 l))
          (λ f. let upper = ltb-false a 2 f in
          sym (upper_at s a upper less) ∙ ap (λ (counts : List ℕ). get_or counts (a - 2) 0) same ∙ upper_at t a upper less)

module _ (frames : List Frame) (few : length frames ≤ most_frames) (under : Each (FrameUnder most_activities) frames) where
  frame_under : (line : ℕ) → line < length frames → FrameUnder most_activities (frame_in frames line)
  frame_under line less = each_at line none under less

  tally_of_word : (line : ℕ) → line < length frames → tally_in (word_of frames line) ≡ number_of (drop 2 (tally (trace_in frames line)))
  tally_of_word line less = tally_held (tally (trace_in frames line)) line (omega (arith, less, few))

  line_of_word : (line : ℕ) → line < length frames → line_in (word_of frames line) ≡ line
  line_of_word line less = line_held (tally (trace_in frames line)) line (omega (arith, less, few))

  upper_small : (line : ℕ) → line < length frames → Each (λ (n : ℕ). n < 256) (drop 2 (tally (trace_in frames line)))
  upper_small line less = each_drop 2 (tally_bytes (trace_in frames line) (frame_under line less).short)

  upper_length : (line : ℕ) → length (drop 2 (tally (trace_in frames line))) ≡ 14
  upper_length line = omega (arith, length-drop 2 (tally (trace_in frames line)), tally_length (trace_in frames line))

  -- two words have one tally exactly where their lines are of one variant
  pub same_words : (line other : ℕ) → line < length frames → other < length frames
      → same_tally (word_of frames line) (word_of frames other) ≡ alike frames line other
  same_words line other less less' =
      same_truth
      (λ t. upper_same
      (frame_under line less).behaviour
      (frame_under other less').behaviour
      (number_once
      (upper_small line less)
      (upper_small other less')
      (upper_length line ∙ sym (upper_length other))
      (sym (tally_of_word line less) ∙ sym (eqb-true _ _ t) ∙ tally_of_word other less')))
      (λ same. eq-eqb
      (tally_in (word_of frames other))
      (tally_in (word_of frames line))
      (tally_of_word other less'
      ∙ ap (λ (counts : List ℕ). number_of (drop 2 counts)) (sym ((tallies_decide (trace_in frames line) (trace_in frames other)).0 same))
      ∙ sym (tally_of_word line less)))

  abbrev words : List ℕ
  words = sorted (frame_words frames)

  -- what is summed over the sorted words is summed over the lines
  over_lines : (f : ℕ → ℕ) → sum (map f words) ≡ sum (map (λ (line : ℕ). f (word_of frames line)) (up_to (length frames)))
  unfolding frame_words
  over_lines f =
      sym (moved_sums (frame_words frames) words (sorted_moves ltb (frame_words frames)) f)
      ∙ ap sum (map-map f (word_of frames) (up_to (length frames)))

  module _ (line : ℕ) (less : line < length frames) where
    abbrev own : ℕ
    own = word_of frames line

    -- a word stands for the variant of its line
    over_is : variant_at frames words own ≡ variant_of frames line
    unfolding variant_of
    over_is i = record { first_line = line_of_word line less i; frames = counted i; cases = added i }
      where
        counted : (variant_at frames words own).frames ≡ (variant_of frames line).frames
        counted =
            over_lines (λ (other : ℕ). cond (same_tally own other) 1 0)
            ∙ ap sum (map_same _ _ (each_up_to (length frames) λ other less'. ap (λ (b : Bool). cond b 1 0) (same_words line other less less')))
            ∙ sym (frames_counted frames line)

        added : (variant_at frames words own).cases ≡ (variant_of frames line).cases
        added =
            over_lines (λ (other : ℕ). cond (same_tally own other) (frame_in frames (line_in other)).cases 0)
            ∙ ap sum
            (map_same _ _ (each_up_to (length frames) λ other less'.
            ap₂ (λ (b : Bool) (l : ℕ). cond b (frame_in frames l).cases 0) (same_words line other less less') (line_of_word other less')))
            ∙ sym (cases_counted frames line)

    -- of two words of one tally the one with the earlier line comes first
    word_before : (other : ℕ) → other < length frames → other < line → alike frames line other ≡ true → earlier own (word_of frames other) ≡ true
    word_before other less' before same =
        let one = same_words line other less less' ∙ same in
        let at = eqb-true (tally_in (word_of frames other)) (tally_in own) one in
        rw (one, lt-ltb (word_of frames other) own (omega (arith, at, before, line_of_word line less, line_of_word other less'))) refl

    before_word : (other : ℕ) → other < length frames → earlier own (word_of frames other) ≡ true → (other < line) × (alike frames line other ≡ true)
    before_word other less' e =
        let both = (and-eq-true_iff (same_tally own (word_of frames other)) (ltb (word_of frames other) own)).0 e in
        let at = eqb-true (tally_in (word_of frames other)) (tally_in own) both.0 in (
          omega (arith, at, ltb-true (word_of frames other) own both.1, line_of_word line less, line_of_word other less'),
          sym (same_words line other less less') ∙ both.0,
        )

    none_before : list_any (alike frames line) (up_to line) ≡ false → list_any (earlier own) words ≡ false
    none_before none_of_it =
        each_none
        (earlier own)
        (each_word frames λ other less'. by_test
        (earlier own (word_of frames other))
        (λ t. let b = before_word other less' t in
        absurd (true≢false (sym b.1 ∙ up_to_each line (none_each (alike frames line) (up_to line) none_of_it) other b.0)))
        (λ f. f))

    before_none : list_any (earlier own) words ≡ false → list_any (alike frames line) (up_to line) ≡ false
    unfolding frame_words
    before_none none_of_them =
        each_none
        (alike frames line)
        (each_up_to line λ other before. by_test
        (alike frames line other)
        (λ t. absurd (true≢false (sym (word_before other (omega (arith, before, less)) before t) ∙ up_to_each (length frames) each_line other (omega (arith, before, less)))))
        (λ f. f))
      where
        each_line : Each (λ (other : ℕ). earlier own (word_of frames other) ≡ false) (up_to (length frames))
        each_line =
            each_unmap
            (word_of frames)
            (up_to (length frames))
            (none_each
            (earlier own)
            (frame_words frames)
            (list_any-IsPermutation (earlier own) (frame_words frames) words (sorted_moves ltb (frame_words frames)) ∙ none_of_them))

    opens_is : is_first_word frames words own ≡ is_first frames line
    unfolding is_first
    opens_is = ap not (same_false before_none none_before)

  -- the sorted words ascend: no two are equal, since their lines are not
  words_ascend : Ordered ◌<◌ words
  unfolding frame_words
  words_ascend =
      sorted_ordered
      ltb
      {D = λ (x y : ℕ). x ≡ y → ⊥}
      (λ x y t. ltb-true x y t)
      (λ x y differ f. omega (arith, differ, ltb-false y x f))
      (λ x y z h k. omega (arith, h, k))
      (ordered_map
      (word_of frames)
      (ordered_among
      (λ k l less less' before same. omega (arith, before, line_of_word k less, line_of_word l less', ap line_in same))
      (each_up_to (length frames) λ k less. less)
      (up_to_ordered (length frames))))

  -- so the words gathered are the variants
  pub gathered_variants : SameSums (gathered frames words) (variants frames)
  unfolding variants
  gathered_variants f =
      ap (λ (vs : List Variant). sum (map f vs)) (gathered_runs frames words_ascend (each_imply (λ word small. omega (arith, small)) (words_small frames few under)))
      ∙ ap sum (map-map f (variant_at frames words) (filter (is_first_word frames words) words))
      ∙ sum_filter (λ (word : ℕ). f (variant_at frames words word)) (is_first_word frames words) words
      ∙ over_lines (λ (word : ℕ). cond (is_first_word frames words word) (f (variant_at frames words word)) 0)
      ∙ ap sum (map_same _ _ (each_up_to (length frames) λ line less. ap₂ (λ (b : Bool) (v : Variant). cond b (f v) 0) (opens_is line less) (over_is line less)))
      ∙ sym (sum_filter (λ (line : ℕ). f (variant_of frames line)) (is_first frames) (up_to (length frames)))
      ∙ sym (ap sum (map-map f (variant_of frames) (firsts frames)))
