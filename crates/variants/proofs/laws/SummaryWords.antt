-- The words of a log's variants, sorted, are those of its summary: a word has room for each number
-- of a variant, the lower of two words is that of the variant that leads, and what was gathered in
-- any order is sorted to one list.
-- Assumes nothing.
use Prim.Native.Nat.{ℕ, ◌-◌, ◌*◌, ◌/◌, ◌%◌, ◌≤◌, ◌<◌}
use native.Mathlib.Omega.{arith}
use mathlib.Core.Path.{◌≡◌, refl, ap, ap₂, sym, ◌∙◌}
use mathlib.Core.Bool.{Bool, cond}
use mathlib.Core.List.{List, ◌++◌, map, flat_map, map-map}
use lib.Dec.{ltb}
use lib.ListN.{length}
use borrow.Author.Tests.{lt-ltb, ltb-true}
use Rattle.std.proofs.lemmas.List.Folds.{flat_map-map}
use Rattle.std.proofs.lemmas.List.Sums.{length-filter, count_by-le-length}
use Rattle.foundation.specs.Lists.{Each, each_nil, each_cons, sum}
use Rattle.foundation.proofs.laws.Booleans.{by_test, same_truth, cond_either}
use Rattle.foundation.proofs.laws.Each.{each_imply, each_always, each_map, each_up_to, each_filter}
use Rattle.foundation.proofs.laws.Sums.{sum_le, sum_filter}
use Rattle.sorting.specs.Sorting.{sorted}
use Rattle.sorting.proofs.laws.Sorted.{sorted_each, sorted_numbers}
use Rattle.sorting.proofs.laws.Ascending.{same_sorted}
use Rattle.limits.specs.Settings.{most_activities}
use Rattle.event_log_spec.specs.Frames.{Frame, FrameUnder, most_frames, total_cases}
use Rattle.event_log_spec.proofs.laws.Written.{total_bounded}
use Rattle.variants_spec.specs.declared.Variant.{Variant}
use Rattle.variants_spec.specs.Variants.{same_variant, trace_in, frames_like, is_first, variant_of, variants}
use Rattle.variants_spec.specs.Summary.{leads, summary, entry}
use Rattle.variants_spec.specs.SummaryOf.{Leads, by_cases, by_line}
use Rattle.variants_spec.proofs.laws.Leading.{leads_decides, leads_tested}
use Rattle.variants.specs.Words.{frame_words, most_cases, line_room, words_end, variant_word, variant_in, entry_in}
use Rattle.variants.specs.Gathering.{gathered}
use Rattle.variants.proofs.laws.LogVariants.{gathered_variants}

-- what a word has room for
pub record Fits (v : Variant) : Type 0 where
  pub line : v.first_line < line_room
  pub frames : v.frames < line_room
  pub cases : v.cases ≤ most_cases

-- a word gives its variant back
pub word_back : (v : Variant) → Fits v → variant_in (variant_word v) ≡ v
unfolding variant_in variant_word
word_back v f i = record { first_line = line i; frames = frames i; cases = cases i }
  where
    line : variant_word v / line_room % line_room ≡ v.first_line
    line = omega (arith, f.line, f.frames)

    frames : variant_word v % line_room ≡ v.frames
    frames = omega (arith, f.frames)

    cases : most_cases - variant_word v / (line_room * line_room) ≡ v.cases
    cases = omega (arith, f.line, f.frames, f.cases)

pub word_small : (v : Variant) → Fits v → variant_word v < words_end
unfolding variant_word
word_small v f = omega (arith, f.line, f.frames)

-- a variant that leads has the lower word
leads_lower : (p q : Variant) → Fits p → Fits q → Leads p q → variant_word p < variant_word q
unfolding variant_word
leads_lower p q f g (by_cases less) = omega (arith, f.line, f.frames, g.line, g.frames, f.cases, g.cases, less)
leads_lower p q f g (by_line same less) = omega (arith, f.line, f.frames, g.line, g.frames, f.cases, g.cases, same, less)

module _ (frames : List Frame) (few : length frames ≤ most_frames) (under : Each (FrameUnder most_activities) frames) where
  -- a variant of the log, which its first line determines
  record VariantOf (v : Variant) : Type 0 where
    fits : Fits v
    is : v ≡ variant_of frames v.first_line

  lower : (p q : Variant) → VariantOf p → VariantOf q → leads p q ≡ ltb (variant_word p) (variant_word q)
  lower p q a b =
      same_truth
      (λ t. lt-ltb (variant_word p) (variant_word q) (leads_lower p q a.fits b.fits ((leads_decides p q).0 t)))
      (λ t. let less = ltb-true (variant_word p) (variant_word q) t in
      by_test
      (leads q p)
      (λ back. absurd (omega (arith, less, leads_lower q p b.fits a.fits ((leads_decides q p).0 back))))
      (λ f. (leads_decides p q).1 (leads_tested p q (λ same. absurd (omega (arith, less, ap variant_word (a.is ∙ ap (variant_of frames) same ∙ sym b.is)))) f)))

  module _ (line : ℕ) (less : line < length frames) where
    abbrev of_it : Frame → Bool
    of_it f = same_variant (trace_in frames line) f.trace

    frames_few : (variant_of frames line).frames ≤ length frames
    unfolding variant_of frames_like
    frames_few = rw (length-filter of_it frames) (count_by-le-length of_it frames)

    cases_few : (variant_of frames line).cases ≤ total_cases frames
    unfolding variant_of frames_like total_cases
    cases_few =
        rw (sum_filter (λ (f : Frame). f.cases) of_it frames) (
        sum_le
        (λ (f : Frame). cond (of_it f) f.cases 0)
        (λ (f : Frame). f.cases)
        (each_always (λ f. cond_either (λ (n : ℕ). n ≤ f.cases) (of_it f) (omega arith) (omega arith)) frames))

    line_variant : VariantOf (variant_of frames line)
    unfolding variant_of
    line_variant =
        record {
          fits =
              record {
                line = omega (arith, less, few);
                frames = omega (arith, frames_few, few);
                cases = omega (arith, cases_few, total_bounded under, few);
              };
          is = refl;
        }

  each_variant : Each VariantOf (variants frames)
  unfolding variants
  each_variant =
      each_map
      (variant_of frames)
      (each_filter (is_first frames) (each_up_to (length frames) line_variant))

  -- the gathered words, sorted
  pub summary_sorted : sorted (map variant_word (gathered frames (sorted (frame_words frames)))) ≡ map variant_word (summary frames)
  unfolding summary
  summary_sorted =
      same_sorted
      (map variant_word (gathered frames (sorted (frame_words frames))))
      (map variant_word (variants frames))
      (λ f. ap sum (map-map f variant_word (gathered frames (sorted (frame_words frames))))
      ∙ gathered_variants frames few under (λ (v : Variant). f (variant_word v))
      ∙ sym (ap sum (map-map f variant_word (variants frames))))
      ∙ sym (sorted_numbers leads variant_word lower each_variant)

  each_fits : Each Fits (summary frames)
  unfolding summary
  each_fits = sorted_each leads (each_imply (λ v a. a.fits) each_variant)

  -- and what they hold
  pub summary_read : flat_map entry_in (map variant_word (summary frames)) ≡ flat_map entry (summary frames)
  unfolding flat_map
  summary_read = flat_map-map entry_in variant_word (summary frames) ∙ same each_fits
    where
      same : {vs : List Variant} → Each Fits vs → flat_map (λ (v : Variant). entry_in (variant_word v)) vs ≡ flat_map entry vs
      same each_nil = refl
      same (each_cons {x = v} here later) = ap₂ ◌++◌ (ap entry (word_back v here)) (same later)

  pub summary_words_small : Each (λ (word : ℕ). word < words_end) (map variant_word (summary frames))
  summary_words_small = each_map variant_word (each_imply word_small each_fits)
