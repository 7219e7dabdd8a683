-- What gathering gives, said of each word alone: of ascending words the first one of each tally
-- stands for its variant, which has a frame for each word of that tally. One word more before them
-- either begins a variant, where the tally is another one, or takes the place of the first word of
-- its tally; what stands for the other variants does not change.
-- Assumes nothing.
use Prim.Native.Nat.{ℕ, ◌+◌, ◌<◌}
use native.Mathlib.Omega.{arith}
use mathlib.Core.Path.{◌≡◌, refl, ap, ap₂, sym, ◌∙◌}
use mathlib.Core.Bool.{Bool, true, false, cond, not, ◌&&◌, true≢false}
use mathlib.Core.List.{List, ◌∷◌, map}
use lib.Dec.{eqb, ltb}
use lib.ListN.{drop}
use borrow.Author.Tests.{eqb-true, eqb-false, eq-eqb, ne_eqb, lt-ltb, ltb-true}
use Rattle.std.specs.List.{filter, list_any}
use Rattle.foundation.specs.Lists.{Each, each_nil, each_cons, Ordered, ordered_nil, ordered_cons, sum}
use Rattle.foundation.proofs.laws.Booleans.{by_test}
use Rattle.foundation.proofs.laws.Each.{each_imply, each_none}
use Rattle.foundation.proofs.laws.Filtering.{kept_same}
use Rattle.foundation.proofs.laws.Sums.{sum_zero}
use Rattle.event_log_spec.specs.Frames.{Frame, frame_in}
use Rattle.variants_spec.specs.declared.Variant.{Variant}
use Rattle.variants.specs.Words.{tally_in, line_in}
use Rattle.variants.specs.Gathering.{no_frames, no_tally, first_tally, first_variant, with_line, gathered}
use Rattle.variants.proofs.laws.GatheringWords.{gathered_same, gathered_other}

-- whether two words have one tally, and one of them comes before the other
abbrev pub same_tally : ℕ → ℕ → Bool
same_tally word other = eqb (tally_in other) (tally_in word)

abbrev pub earlier : ℕ → ℕ → Bool
earlier word other = same_tally word other && ltb other word

module _ (frames : List Frame) where
  abbrev cases_in : ℕ → ℕ
  cases_in word = (frame_in frames (line_in word)).cases

  module _ (words : List ℕ) where
    -- the variant that a word stands for, and whether it is the first of its tally
    abbrev pub variant_at : ℕ → Variant
    variant_at word =
        record {
          first_line = line_in word;
          frames = sum (map (λ (other : ℕ). cond (same_tally word other) 1 0) words);
          cases = sum (map (λ (other : ℕ). cond (same_tally word other) (cases_in other) 0) words);
        }

    abbrev pub is_first_word : ℕ → Bool
    is_first_word word = not (list_any (earlier word) words)

  -- no word of later ones comes before one
  first_opens : (word : ℕ) {words : List ℕ} → Each (◌<◌ word) words → list_any (earlier word) words ≡ false
  first_opens word later =
      each_none
      (earlier word)
      (each_imply
      (λ other less. by_test
      (same_tally word other)
      (λ t. by_test (ltb other word) (λ l. absurd (omega (arith, less, ltb-true other word l))) (λ f. rw (t, f) refl))
      (λ f. rw f refl))
      later)

  alone_first : (word : ℕ) → earlier word word ≡ false
  alone_first word = by_test (ltb word word) (λ l. absurd (omega (arith, ltb-true word word l))) (λ f. rw (eq-eqb (tally_in word) (tally_in word) refl, f) refl)

  module _ (word : ℕ) (words : List ℕ) where
    -- a word of another tally changes nothing of another variant
    opens_still : (other : ℕ) → same_tally other word ≡ false → is_first_word (word ∷ words) other ≡ is_first_word words other
    opens_still other e = rw e refl

    over_still : (other : ℕ) → same_tally other word ≡ false → variant_at (word ∷ words) other ≡ variant_at words other
    over_still other e = rw e (λ i. record { first_line = line_in other; frames = plain (variant_at words other).frames i; cases = plain (variant_at words other).cases i })
      where
        plain : (n : ℕ) → 0 + n ≡ n
        plain n = omega arith

    -- what a word of its own tally is counted as
    over_own : variant_at (word ∷ words) word ≡ record {
      first_line = line_in word;
      frames = 1 + sum (map (λ (other : ℕ). cond (same_tally word other) 1 0) words);
      cases = cases_in word + sum (map (λ (other : ℕ). cond (same_tally word other) (cases_in other) 0) words);
    }
    over_own = rw (eq-eqb (tally_in word) (tally_in word) refl) refl

  -- the words gathered are those that are the first of their tallies, each for its variant
  abbrev pub GatheredByWord : List ℕ → Type 0
  GatheredByWord words = gathered frames words ≡ map (variant_at words) (filter (is_first_word words) words)

  module _ (word : ℕ) {words : List ℕ} (after : Each (◌<◌ word) words) where
    -- the word itself is the first of its tally
    opens_own : is_first_word (word ∷ words) word ≡ true
    opens_own = rw (alone_first word, first_opens word after) refl

    -- a word whose tally is none of the later ones'
    new_run : Each (λ (other : ℕ). same_tally word other ≡ false) words → GatheredByWord words → (tally_in word ≡ first_tally words → ⊥) → GatheredByWord (word ∷ words)
    unfolding with_line
    new_run others before differs =
        gathered_other frames word words differs
        ∙ ap₂
        ◌∷◌
        (own ∙ sym (over_own word words))
        (before ∙ sym (kept_same (is_first_word (word ∷ words)) (is_first_word words) (variant_at (word ∷ words)) (variant_at words) (each_imply still others)))
        ∙ kept
      where
        still : (other : ℕ) → same_tally word other ≡ false → (is_first_word (word ∷ words) other ≡ is_first_word words other) × (is_first_word words other ≡ true → variant_at (word ∷ words) other ≡ variant_at words other)
        still other e = let back : same_tally other word ≡ false = ne_eqb (tally_in word) (tally_in other) (λ same. eqb-false (tally_in other) (tally_in word) e (sym same)) in (opens_still word words other back, λ t. over_still word words other back)

        counted : 0 + 1 ≡ 1 + sum (map (λ (other : ℕ). cond (same_tally word other) 1 0) words)
        counted = omega (arith, sum_zero (λ (other : ℕ). cond (same_tally word other) 1 0) (each_imply (λ other e. ap (λ (b : Bool). cond b 1 0) e) others))

        added : 0 + cases_in word ≡ cases_in word + sum (map (λ (other : ℕ). cond (same_tally word other) (cases_in other) 0) words)
        added = omega (arith, sum_zero (λ (other : ℕ). cond (same_tally word other) (cases_in other) 0) (each_imply (λ other e. ap (λ (b : Bool). cond b (cases_in other) 0) e) others))

        own : with_line frames (line_in word) no_frames ≡ record {
          first_line = line_in word;
          frames = 1 + sum (map (λ (other : ℕ). cond (same_tally word other) 1 0) words);
          cases = cases_in word + sum (map (λ (other : ℕ). cond (same_tally word other) (cases_in other) 0) words);
        }
        own i =
            record {
              first_line = line_in word;
              frames = counted i;
              cases = added i;
            }

        kept : variant_at (word ∷ words) word ∷ map (variant_at (word ∷ words)) (filter (is_first_word (word ∷ words)) words) ≡ map (variant_at (word ∷ words)) (filter (is_first_word (word ∷ words)) (word ∷ words))
        kept = rw opens_own refl

  -- a word of the same tally as the one after it, whose place it takes
  module _ (word next : ℕ) {words : List ℕ} (less : word < next) (after : Each (◌<◌ word) words) (after_next : Each (◌<◌ next) words)
      (same : tally_in word ≡ tally_in next) where
    abbrev later : List ℕ
    later = next ∷ words

    next_closed : is_first_word (word ∷ later) next ≡ false
    next_closed = rw (eq-eqb (tally_in word) (tally_in next) same, lt-ltb word next less) refl

    grown : with_line frames (line_in word) (variant_at later next) ≡ variant_at (word ∷ later) word
    unfolding with_line
    grown = (λ i. record { first_line = line_in word; frames = counted i; cases = added i }) ∙ sym (over_own word later)
      where
        counted : (variant_at later next).frames + 1 ≡ 1 + sum (map (λ (other : ℕ). cond (same_tally word other) 1 0) later)
        counted = omega (arith, ap (λ (t : ℕ). sum (map (λ (other : ℕ). cond (eqb (tally_in other) t) 1 0) later)) same)

        added : (variant_at later next).cases + cases_in word ≡ cases_in word + sum (map (λ (other : ℕ). cond (same_tally word other) (cases_in other) 0) later)
        added = omega (arith, ap (λ (t : ℕ). sum (map (λ (other : ℕ). cond (eqb (tally_in other) t) (cases_in other) 0) later)) same)

    others_still : (other : ℕ) → next < other
        → (is_first_word (word ∷ later) other ≡ is_first_word later other) × (is_first_word later other ≡ true → variant_at (word ∷ later) other ≡ variant_at later other)
    others_still other beyond =
        by_test
        (same_tally other word)
        (λ t. let closed : is_first_word later other ≡ false = rw (eq-eqb (tally_in next) (tally_in other) (sym same ∙ eqb-true (tally_in word) (tally_in other) t), lt-ltb next other beyond) refl in
        let closed' : is_first_word (word ∷ later) other ≡ false = rw (t, lt-ltb word other (omega (arith, less, beyond))) refl in (
          closed' ∙ sym closed,
          λ t'. absurd (true≢false (sym t' ∙ closed)),
        ))
        (λ e. (opens_still word later other e, λ t'. over_still word later other e))

    same_run : GatheredByWord later → GatheredByWord (word ∷ later)
    same_run before =
        gathered_same frames word later same
        ∙ ap (λ (vs : List Variant). with_line frames (line_in word) (first_variant vs) ∷ drop 1 vs) (before ∙ front)
        ∙ ap₂ ◌∷◌ grown (sym (kept_same (is_first_word (word ∷ later)) (is_first_word later) (variant_at (word ∷ later)) (variant_at later) (each_imply others_still after_next)))
        ∙ kept
      where
        front : map (variant_at later) (filter (is_first_word later) later) ≡ variant_at later next ∷ map (variant_at later) (filter (is_first_word later) words)
        front = rw (opens_own next after_next) refl

        kept : variant_at (word ∷ later) word ∷ map (variant_at (word ∷ later)) (filter (is_first_word (word ∷ later)) words) ≡ map (variant_at (word ∷ later)) (filter (is_first_word (word ∷ later)) (word ∷ later))
        kept = rw (opens_own word (each_cons less after), next_closed) refl

  -- so all ascending words whose tallies are numbers of tallies
  pub gathered_runs : {words : List ℕ} → Ordered ◌<◌ words → Each (λ (word : ℕ). tally_in word < no_tally) words → GatheredByWord words
  unfolding gathered
  gathered_runs ordered_nil each_nil = refl
  gathered_runs (ordered_cons {x = word} each_nil rest) (each_cons here later) =
      new_run word each_nil each_nil refl (λ same. absurd (omega (arith, here, same)))
  gathered_runs (ordered_cons {x = word} (each_cons {x = next} {xs = words} less after) (ordered_cons after_next rest)) (each_cons here later) =
      let before = gathered_runs (ordered_cons after_next rest) later in
      by_test
      (eqb (tally_in word) (tally_in next))
      (λ t. same_run word next less after after_next (eqb-true (tally_in word) (tally_in next) t) before)
      (λ f. let differs = eqb-false (tally_in word) (tally_in next) f in
      new_run word (each_cons less after) (each_cons (beyond next differs less) (each_imply (λ other far. beyond_next differs other far) after_next)) before differs)
    where
      beyond : (other : ℕ) → (tally_in word ≡ tally_in other → ⊥) → word < other → same_tally word other ≡ false
      beyond other differs less = ne_eqb (tally_in other) (tally_in word) (λ same. differs (sym same))

      beyond_next : (tally_in word ≡ tally_in next → ⊥) → (other : ℕ) → next < other → same_tally word other ≡ false
      beyond_next differs other far = ne_eqb (tally_in other) (tally_in word) (λ same. absurd (omega (arith, differs, less, far, same)))
