-- The summary of a log's frames is what document 02 says of it. Sorting keeps the variants and
-- makes them ascend, since their first lines differ. Each line has one first line, so it counts
-- once in exactly one variant: the frames of all variants, and their cases, add up to those of the
-- log.
-- Assumes nothing.
use Prim.Native.Nat.{ℕ, ◌≤◌, ◌<◌}
use native.Mathlib.Omega.{arith}
use mathlib.Core.Path.{◌≡◌, refl, ap, sym, ◌∙◌}
use mathlib.Core.Bool.{true, cond}
use mathlib.Core.List.{List, map, map-map}
use lib.ListN.{length}
use Rattle.std.specs.List.{filter}
use Rattle.std.proofs.lemmas.List.Sorted.{length_permutation}
use Rattle.std.proofs.lemmas.List.{length-map}
use Rattle.std.proofs.lemmas.List.Sums.{length-filter, count_by-le-length}
use Rattle.foundation.specs.Lists.{Each, Ordered, up_to, sum}
use Rattle.foundation.proofs.laws.Each.{each_always, each_up_to, each_map, each_at, length_up_to}
use Rattle.foundation.proofs.laws.Members.{each_member, members_each, member_filter}
use Rattle.foundation.proofs.laws.Ordered.{ordered_imply, ordered_filter, ordered_map, up_to_ordered}
use Rattle.foundation.proofs.laws.Sums.{sum_filter, sum_ones, count_passing, sum_exchange}
use Rattle.foundation.proofs.laws.Lists.{map_same}
use Rattle.sorting.proofs.laws.Sorted.{sorted_moves, sorted_each, sorted_ordered}
use Rattle.sorting.proofs.laws.SameSums.{SameSums, moved_sums}
use Rattle.limits.specs.Settings.{most_activities}
use Rattle.event_log_spec.specs.Frames.{Frame, FrameUnder, total_cases, frame_in}
use Rattle.variants_spec.specs.declared.Variant.{Variant}
use Rattle.variants_spec.specs.Variants.{same_variant, trace_in, alike, frames_like, is_first, variant_of, variants}
use Rattle.variants_spec.specs.Summary.{leads, summary}
use Rattle.variants_spec.specs.SummaryOf.{Leads, EntryOf, entries_with, SummaryOf}
use Rattle.variants_spec.proofs.laws.SameVariants.{same_decides}
use Rattle.variants_spec.proofs.laws.LineSums.{sum_by_line}
use Rattle.variants_spec.proofs.laws.FirstLines.{first_least, counted_once}
use Rattle.variants_spec.proofs.laws.Leading.{leads_decides, leads_onward, leads_tested}

module _ (frames : List Frame) where
  abbrev pub all_lines : List ℕ
  all_lines = up_to (length frames)

  abbrev pub firsts : List ℕ
  firsts = filter (is_first frames) all_lines

  -- the numbers that a variant shows, as sums over the lines
  module _ (first : ℕ) where
    pub frames_counted : (variant_of frames first).frames ≡ sum (map (λ (line : ℕ). cond (alike frames first line) 1 0) all_lines)
    unfolding variant_of frames_like
    frames_counted =
        count_passing (λ (f : Frame). same_variant (trace_in frames first) f.trace) frames
        ∙ sum_by_line (λ (f : Frame). cond (same_variant (trace_in frames first) f.trace) 1 0) frames

    pub cases_counted : (variant_of frames first).cases ≡ sum (map (λ (line : ℕ). cond (alike frames first line) (frame_in frames line).cases 0) all_lines)
    unfolding variant_of frames_like total_cases
    cases_counted =
        sum_filter (λ (f : Frame). f.cases) (λ (f : Frame). same_variant (trace_in frames first) f.trace) frames
        ∙ sum_by_line (λ (f : Frame). cond (same_variant (trace_in frames first) f.trace) f.cases 0) frames

  -- sorting moves the variants
  summary_moves : SameSums (variants frames) (summary frames)
  unfolding summary
  summary_moves = moved_sums (variants frames) (summary frames) (sorted_moves leads (variants frames))

  -- what is summed over the summary is summed over the first lines
  over_firsts : (f : Variant → ℕ) → sum (map f (summary frames)) ≡ sum (map (λ (first : ℕ). f (variant_of frames first)) firsts)
  unfolding variants
  over_firsts f = sym (summary_moves f) ∙ ap sum (map-map f (variant_of frames) firsts)

  -- as many as the summary has
  pub as_many : length (summary frames) ≡ length (variants frames)
  unfolding summary
  as_many = length_permutation (variants frames) (summary frames) (sorted_moves leads (variants frames))

  -- and at most as many as the log has frames
  pub few_variants : length (summary frames) ≤ length frames
  unfolding variants
  few_variants =
      omega (
        arith,
        as_many,
        length-map firsts (variant_of frames),
        length-filter (is_first frames) all_lines,
        count_by-le-length (is_first frames) all_lines,
        length_up_to (length frames),
      )

  -- weights of the lines, each with its first line, are the weights of the lines
  weights_once : (weight : ℕ → ℕ)
      → sum (map (λ (first : ℕ). sum (map (λ (line : ℕ). cond (alike frames first line) (weight line) 0) all_lines)) firsts)
      ≡ sum (map weight all_lines)
  weights_once weight =
      sum_exchange (λ (first line : ℕ). cond (alike frames first line) (weight line) 0) firsts all_lines
      ∙ ap sum (map_same _ weight (each_up_to (length frames) λ line less. counted_once frames (weight line) line less))

  pub all_frames : sum (map (λ (v : Variant). v.frames) (summary frames)) ≡ length frames
  all_frames =
      over_firsts (λ (v : Variant). v.frames)
      ∙ ap sum (map_same _ _ (each_always frames_counted firsts))
      ∙ weights_once (λ line. 1)
      ∙ sum_ones all_lines
      ∙ length_up_to (length frames)

  pub all_cases : sum (map (λ (v : Variant). v.cases) (summary frames)) ≡ total_cases frames
  unfolding total_cases
  all_cases =
      over_firsts (λ (v : Variant). v.cases)
      ∙ ap sum (map_same _ _ (each_always cases_counted firsts))
      ∙ weights_once (λ (line : ℕ). (frame_in frames line).cases)
      ∙ sym (sum_by_line (λ (f : Frame). f.cases) frames)

  exactly_one : (line : ℕ) → line < length frames → length (entries_with frames (summary frames) line) ≡ 1
  unfolding entries_with variant_of
  exactly_one line less =
      count_passing (λ (v : Variant). alike frames v.first_line line) (summary frames)
      ∙ over_firsts (λ (v : Variant). cond (alike frames v.first_line line) 1 0)
      ∙ counted_once frames 1 line less

  -- no two variants have the same first line, and of two that have not one leads
  pub lines_differ : Ordered (λ (p q : Variant). p.first_line ≡ q.first_line → ⊥) (variants frames)
  unfolding variants variant_of
  lines_differ =
      ordered_map
      (variant_of frames)
      (ordered_imply (λ k l less same. omega (arith, less, same)) (ordered_filter (is_first frames) (up_to_ordered (length frames))))

  ascends : Ordered Leads (summary frames)
  unfolding summary
  ascends = sorted_ordered leads (λ p q e. (leads_decides p q).0 e) leads_tested leads_onward lines_differ

  module _ (known : Each (FrameUnder most_activities) frames) where
    codes_known : (line : ℕ) → line < length frames → Each (λ (a : ℕ). a < most_activities) (trace_in frames line)
    codes_known line less = (each_at line _ known less).known

    first_entry : (first : ℕ) → first < length frames → is_first frames first ≡ true → EntryOf frames (variant_of frames first)
    unfolding variant_of
    first_entry first less is =
        record {
          in_log = less;
          least = λ line less' same. first_least frames first line is ((same_decides (codes_known first less) (codes_known line less')).1 same);
          frames_shown = refl;
          cases_shown = refl;
        }

    entries : Each (EntryOf frames) (summary frames)
    unfolding summary variants
    entries =
        sorted_each
        leads
        (each_map
        (variant_of frames)
        (members_each
        firsts
        (λ first m. let both = (member_filter (is_first frames) all_lines).0 m in
        first_entry first (each_member (each_up_to (length frames) λ k less. less) both.0) both.1)))

    pub summary_of : SummaryOf frames (summary frames)
    summary_of =
        record {
          entries = entries;
          exactly_one = exactly_one;
          ascends = ascends;
          all_frames = all_frames;
          all_cases = all_cases;
        }
