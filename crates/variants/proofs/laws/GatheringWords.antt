-- Gathering sorted words from the last to the first, in their own place: one word more goes into
-- the first variant that was gathered, where its tally is that variant's, and else into a new one
-- before it. There are never more variants than words, so that what is written never reaches the
-- words that are still to be read, and the numbers of a variant fit their words.
-- Assumes nothing.
use Prim.Native.Nat.{ℕ, suc, ◌+◌, ◌-◌, ◌*◌, ◌^◌, ◌≤◌, ◌<◌}
use native.Mathlib.Omega.{arith}
use mathlib.Core.Path.{◌≡◌, refl, ap, sym, subst, ◌∙◌}
use mathlib.Core.Bool.{cond, not}
use mathlib.Core.List.{List, [], ◌∷◌, ◌++◌, map, append-nil}
use lib.Dec.{eqb}
use mir.Val.{bool_byte}
use lib.ListN.{length, get_or, take, drop, set, length-drop}
use lib.Seq.{take-suc, take-length, set_at, append_snoc, length-take-le}
use borrow.Author.Tests.{eqb-true, eqb-false, eq-eqb, ne_eqb}
use Rattle.std.proofs.lemmas.List.{drop_more, drop_all, get_or_append_left, get_or-take}
use Rattle.foundation.specs.Lists.{Each, each_nil, each_cons}
use Rattle.foundation.proofs.laws.Booleans.{by_test}
use Rattle.foundation.proofs.laws.Each.{each_imply, each_drop}
use Rattle.event_log_spec.specs.Frames.{Frame, frame_in}
use Rattle.variants_spec.specs.declared.Variant.{Variant}
use Rattle.variants.specs.Words.{tally_in, line_in, variant_word}
use Rattle.variants.specs.Gathering.{no_frames, no_tally, first_variant, first_tally, with_line, gathered}

-- a list with an element is that element and the others
some_split : (vs : List Variant) → 1 ≤ length vs → vs ≡ first_variant vs ∷ drop 1 vs
some_split [] some = absurd (omega (arith, some))
some_split (v ∷ vs) some = refl

module _ (frames : List Frame) where
  -- a word of the first variant's tally, and any other
  pub gathered_same : (word : ℕ) (words : List ℕ) → tally_in word ≡ first_tally words
      → gathered frames (word ∷ words) ≡ with_line frames (line_in word) (first_variant (gathered frames words)) ∷ drop 1 (gathered frames words)
  unfolding gathered
  gathered_same word words same = rw (eq-eqb (tally_in word) (first_tally words) same) refl

  pub gathered_other : (word : ℕ) (words : List ℕ) → (tally_in word ≡ first_tally words → ⊥)
      → gathered frames (word ∷ words) ≡ with_line frames (line_in word) no_frames ∷ gathered frames words
  unfolding gathered
  gathered_other word words other = rw (ne_eqb (tally_in word) (first_tally words) other) refl

  -- either way
  pub by_tally : (P : List Variant → Type 0) (word : ℕ) (words : List ℕ)
      → P (with_line frames (line_in word) (first_variant (gathered frames words)) ∷ drop 1 (gathered frames words))
      → P (with_line frames (line_in word) no_frames ∷ gathered frames words)
      → P (gathered frames (word ∷ words))
  unfolding gathered
  by_tally P word words same other = by_test (eqb (tally_in word) (first_tally words)) (λ t. rw t same) (λ f. rw f other)

  gathered_few : (words : List ℕ) → length (gathered frames words) ≤ length words
  unfolding gathered
  gathered_few [] = omega arith
  gathered_few (word ∷ words) =
      by_tally
      (λ (vs : List Variant). length vs ≤ suc (length words))
      word
      words
      (omega (arith, length-drop 1 (gathered frames words), gathered_few words))
      (omega (arith, gathered_few words))

  gathered_some : (words : List ℕ) → first_tally words < no_tally → 1 ≤ length (gathered frames words)
  gathered_some [] less = absurd (omega (arith, less))
  gathered_some (word ∷ words) less = by_tally (λ (vs : List Variant). 1 ≤ length vs) word words (omega arith) (omega arith)

  -- the numbers of variants, where no frame has more cases than 32 bits can say
  pub record SmallIn (words : List ℕ) (v : Variant) : Type 0 where
    pub few_frames : v.frames ≤ length words
    pub few_cases : v.cases ≤ 2 ^ 32 * v.frames

  module _ (few : (line : ℕ) → (frame_in frames line).cases ≤ 2 ^ 32) where
    more_small : (line word : ℕ) (words : List ℕ) (v : Variant) → SmallIn words v → SmallIn (word ∷ words) (with_line frames line v)
    unfolding with_line
    more_small line word words v small = record { few_frames = omega (arith, small.few_frames); few_cases = omega (arith, small.few_cases, few line) }

    first_small : (words : List ℕ) (vs : List Variant) → Each (SmallIn words) vs → SmallIn words (first_variant vs)
    first_small words [] each_nil = record { few_frames = omega arith; few_cases = omega arith }
    first_small words (v ∷ vs) (each_cons here later) = here

    longer : (word : ℕ) {words : List ℕ} {vs : List Variant} → Each (SmallIn words) vs → Each (SmallIn (word ∷ words)) vs
    longer word = each_imply (λ v small. record { few_frames = omega (arith, small.few_frames); few_cases = small.few_cases })

    each_small : (words : List ℕ) → Each (SmallIn words) (gathered frames words)
    unfolding gathered
    each_small [] = each_nil
    each_small (word ∷ words) =
        let before = each_small words in
        by_tally
        (Each (SmallIn (word ∷ words)))
        word
        words
        (each_cons (more_small (line_in word) word words _ (first_small words (gathered frames words) before)) (each_drop 1 (longer word before)))
        (each_cons (more_small (line_in word) word words no_frames (record { few_frames = omega arith; few_cases = omega arith })) (longer word before))

    pub variant_small : (words : List ℕ) → SmallIn words (first_variant (gathered frames words))
    variant_small words = first_small words (gathered frames words) (each_small words)

  module _ (all : List ℕ) where
    -- the words from an index on, gathered in their own place
    pub record GatheredFrom (at first tally : ℕ) (variant : Variant) (words : List ℕ) : Type 0 where
      pub counted : first + length (gathered frames (drop at all)) ≡ length all
      pub stored : words ≡ take first all ++ map variant_word (gathered frames (drop at all))
      pub next_tally : tally ≡ first_tally (drop at all)
      pub next_variant : variant ≡ first_variant (gathered frames (drop at all))

    pub none_gathered : GatheredFrom (length all) (length all) no_tally no_frames all
    unfolding gathered
    none_gathered =
        let none : drop (length all) all ≡ [] = drop_all (length all) all (omega arith) in
        record {
          counted = rw none (omega arith);
          stored = rw none (sym (append-nil (take (length all) all) ∙ take-length all));
          next_tally = rw none refl;
          next_variant = rw none refl;
        }

    module _ (at first tally : ℕ) (variant : Variant) (words : List ℕ) (g : GatheredFrom (at + 1) first tally variant words) (less : at < length all) where
      abbrev word : ℕ
      word = get_or all at 0

      abbrev left : List Variant
      left = gathered frames (drop (at + 1) all)

      -- what is written stays behind what is still to be read
      pub behind : at < first
      behind = omega (arith, g.counted, gathered_few (drop (at + 1) all), length-drop (at + 1) all)

      within : first ≤ length all
      within = omega (arith, g.counted)

      pub word_kept : get_or words at 0 ≡ word
      word_kept =
          ap (λ (l : List ℕ). get_or l at 0) g.stored
          ∙ get_or_append_left (take first all) (map variant_word left) 0 at (omega (arith, behind, length-take-le first all within))
          ∙ get_or-take first all at 0 behind

      next_words : drop at all ≡ word ∷ drop (at + 1) all
      next_words = drop_more all at 0 less

      -- a word of the same tally as the one after it
      module _ (small : word < 2 ^ 128) (same : tally_in word ≡ tally) where
        abbrev grown : Variant
        grown = with_line frames (line_in word) variant

        some_left : 1 ≤ length left
        some_left = gathered_some (drop (at + 1) all) (omega (arith, small, same, g.next_tally))

        same_together : gathered frames (drop at all) ≡ grown ∷ drop 1 left
        same_together =
            ap (gathered frames) next_words
            ∙ gathered_same word (drop (at + 1) all) (same ∙ g.next_tally)
            ∙ ap (λ (v : Variant). with_line frames (line_in word) v ∷ drop 1 left) (sym g.next_variant)

        pub same_gathered : GatheredFrom at first (tally_in word) grown (set words first (variant_word grown))
        same_gathered =
            record {
              counted = rw same_together (omega (arith, g.counted, length-drop 1 left, some_left));
              stored =
                  ap
                  (λ (l : List ℕ). set l first (variant_word grown))
                  (g.stored ∙ ap (λ (vs : List Variant). take first all ++ map variant_word vs) (some_split left some_left))
                  ∙ set_at
                  (take first all)
                  (variant_word (first_variant left))
                  (map variant_word (drop 1 left))
                  (variant_word grown)
                  first
                  (length-take-le first all within)
                  ∙ ap (λ (vs : List Variant). take first all ++ map variant_word vs) (sym same_together);
              next_tally = sym (ap first_tally next_words);
              next_variant = sym (ap first_variant same_together);
            }

      -- a word of another tally
      module _ (other : tally_in word ≡ tally → ⊥) where
        abbrev alone : Variant
        alone = with_line frames (line_in word) no_frames

        other_together : gathered frames (drop at all) ≡ alone ∷ left
        other_together = ap (gathered frames) next_words ∙ gathered_other word (drop (at + 1) all) (λ same. other (same ∙ sym g.next_tally))

        one_before : take first all ≡ take (first - 1) all ++ (get_or all (first - 1) 0 ∷ [])
        one_before =
            let whole : first ≡ suc (first - 1) = omega (arith, behind) in
            ap (λ (n : ℕ). take n all) whole ∙ take-suc all (first - 1) 0 (omega (arith, behind, within))

        pub other_gathered : GatheredFrom at (first - 1) (tally_in word) alone (set words (first - 1) (variant_word alone))
        other_gathered =
            record {
              counted = rw other_together (omega (arith, g.counted, behind));
              stored =
                  ap
                  (λ (l : List ℕ). set l (first - 1) (variant_word alone))
                  (g.stored ∙ ap (λ (l : List ℕ). l ++ map variant_word left) one_before ∙ append_snoc (take (first - 1) all) (get_or all (first - 1) 0) (map variant_word left))
                  ∙ set_at
                  (take (first - 1) all)
                  (get_or all (first - 1) 0)
                  (map variant_word left)
                  (variant_word alone)
                  (first - 1)
                  (length-take-le (first - 1) all (omega (arith, within)))
                  ∙ ap (λ (vs : List Variant). take (first - 1) all ++ map variant_word vs) (sym other_together);
              next_tally = sym (ap first_tally next_words);
              next_variant = sym (ap first_variant other_together);
            }

    -- one turn: what is asked of the variant that the word's frame is added to, and what is left
    module _ (at : ℕ) (words : List ℕ) where
      abbrev pub word_read : ℕ
      word_read = get_or words (at - 1) 0

      pub record Turned (next : ℕ) (v : Variant) : Type 0 where
        pub within : next < length all
        pub few_frames : v.frames < length all
        pub few_cases : v.cases ≤ 2 ^ 32 * length all
        pub left : GatheredFrom (at - 1) next (tally_in word_read) (with_line frames (line_in word_read) v) (set words next (variant_word (with_line frames (line_in word_read) v)))

    module _ (at first tally : ℕ) (variant : Variant) (words : List ℕ) (g : GatheredFrom at first tally variant words)
        (some : 0 < at) (less : at ≤ length all) (few : (line : ℕ) → (frame_in frames line).cases ≤ 2 ^ 32) where
      before_turn : GatheredFrom (at - 1 + 1) first tally variant words
      before_turn = let whole : at - 1 + 1 ≡ at = omega (arith, some) in rw whole g

      within_all : at - 1 < length all
      within_all = omega (arith, some, less)

      pub turn_behind : at - 1 < first
      turn_behind = behind (at - 1) first tally variant words before_turn within_all

      pub turn_read : word_read at words ≡ get_or all (at - 1) 0
      turn_read = word_kept (at - 1) first tally variant words before_turn within_all

      variant_frames : variant.frames ≤ length (drop at all)
      variant_frames = omega (arith, ap (λ (v : Variant). v.frames) g.next_variant, (variant_small few (drop at all)).few_frames)

      variant_cases : variant.cases ≤ 2 ^ 32 * variant.frames
      variant_cases =
          omega (
            arith,
            ap (λ (v : Variant). v.frames) g.next_variant,
            ap (λ (v : Variant). v.cases) g.next_variant,
            (variant_small few (drop at all)).few_cases,
          )

      turned_same : word_read at words < 2 ^ 128 → tally_in (word_read at words) ≡ tally → Turned at words first variant
      turned_same small same =
          let small' : get_or all (at - 1) 0 < 2 ^ 128 = omega (arith, small, turn_read) in
          let same' : tally_in (get_or all (at - 1) 0) ≡ tally = sym (ap tally_in turn_read) ∙ same in
          record {
            within = omega (arith, before_turn.counted, some_left (at - 1) first tally variant words before_turn within_all small' same');
            few_frames = omega (arith, variant_frames, length-drop at all, some, less);
            few_cases = omega (arith, variant_cases, variant_frames, length-drop at all);
            left = rw turn_read (same_gathered (at - 1) first tally variant words before_turn within_all small' same');
          }

      turned_other : (tally_in (word_read at words) ≡ tally → ⊥) → Turned at words (first - 1) no_frames
      turned_other other =
          record {
            within = omega (arith, g.counted, turn_behind);
            few_frames = omega (arith, some, less);
            few_cases = omega arith;
            left =
                rw turn_read
                (other_gathered (at - 1) first tally variant words before_turn within_all (λ same. other (ap tally_in turn_read ∙ same)));
          }

      -- by the test whether the word's tally is another one
      pub turned : word_read at words < 2 ^ 128 → let is_new = not (eqb (tally_in (word_read at words)) tally) in
          Turned at words (first - bool_byte is_new) (cond is_new no_frames variant)
      turned small =
          by_test
          (eqb (tally_in (word_read at words)) tally)
          (λ t. let stays : first ≡ first - 0 = omega arith in
          rw t (subst (λ (n : ℕ). Turned at words n variant) stays (turned_same small (eqb-true (tally_in (word_read at words)) tally t))))
          (λ f. rw f (turned_other (eqb-false (tally_in (word_read at words)) tally f)))
