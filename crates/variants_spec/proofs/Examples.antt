-- The definitions of variants and their summary, tried on small logs: the order of events does not
-- matter, their numbers do, and so do the cases of all frames of a variant.
-- Assumes nothing.
use Rattle.std.specs.Prelude.{Ok, Err}
use Prim.Native.Nat.{ℕ}
use mathlib.Core.Path.{◌≡◌, refl}
use mathlib.Core.Bool.{true, false}
use mathlib.Core.List.{List, [], ◌∷◌, ◌++◌, flat_map}
use lib.ListN.{replicate}
use Rattle.foundation.specs.Text.{bytes}
use Rattle.limits.specs.declared.Refusal.TheVariants.{InvalidSetting, UnknownActivity, EmptyLog, BufferTooSmall}
use Rattle.event_log_spec.specs.Frames.{Frame}
use Rattle.event_log_spec.proofs.Examples.{frame}
use Rattle.variants_spec.specs.declared.Variant.{Variant}
use Rattle.variants_spec.specs.Variants.{occurrences, tally, same_variant, is_first, variants}
use Rattle.variants_spec.specs.Summary.{leads, entry, summary, summarized, summary_after}
use Rattle.variants_spec.proofs.Opened.{opened}

abbrev pub variant : ℕ → ℕ → ℕ → Variant
variant first_line frames cases = record { first_line = first_line; frames = frames; cases = cases }

-- 2 and 3 in either order, then 3 twice, then 3 alone
abbrev some_frames : List Frame
some_frames =
    frame 5 (0 ∷ 3 ∷ 3 ∷ 1 ∷ [])
    ∷ frame 3 (0 ∷ 2 ∷ 3 ∷ 1 ∷ [])
    ∷ frame 5 (0 ∷ 3 ∷ 1 ∷ [])
    ∷ frame 4 (0 ∷ 3 ∷ 2 ∷ 1 ∷ [])
    ∷ []

abbrev log : List ℕ
log = bytes "0000000500030301\n0000000300020301\n00000005000301\n0000000400030201\n"

pub record VariantExamples : Type 0 where
  pub twice : occurrences (0 ∷ 3 ∷ 3 ∷ 1 ∷ []) 3 ≡ 2
  pub counts : tally (0 ∷ 3 ∷ 3 ∷ 1 ∷ []) ≡ 1 ∷ 1 ∷ 0 ∷ 2 ∷ 0 ∷ 0 ∷ 0 ∷ 0 ∷ 0 ∷ 0 ∷ 0 ∷ 0 ∷ 0 ∷ 0 ∷ 0 ∷ 0 ∷ []
  pub other_order : same_variant (0 ∷ 2 ∷ 3 ∷ 1 ∷ []) (0 ∷ 3 ∷ 2 ∷ 1 ∷ []) ≡ true
  pub other_number : same_variant (0 ∷ 3 ∷ 3 ∷ 1 ∷ []) (0 ∷ 3 ∷ 1 ∷ []) ≡ false
  pub last_activity : same_variant (0 ∷ 15 ∷ 1 ∷ []) (0 ∷ 14 ∷ 1 ∷ []) ≡ false
  pub second_is_first : is_first some_frames 1 ≡ true
  pub fourth_is_not : is_first some_frames 3 ≡ false
  pub by_first_line : variants some_frames ≡ variant 0 1 5 ∷ variant 1 2 7 ∷ variant 2 1 5 ∷ []
  -- 7 cases lead, and of two with 5 the earlier first line
  pub in_order : summary some_frames ≡ variant 1 2 7 ∷ variant 0 1 5 ∷ variant 2 1 5 ∷ []
  pub more_cases_lead : leads (variant 9 1 2) (variant 0 9 1) ≡ true
  pub later_line_follows : leads (variant 9 1 2) (variant 0 9 2) ≡ false
  pub none_leads_itself : leads (variant 9 1 2) (variant 9 1 2) ≡ false

abbrev three_entries : List ℕ
three_entries = 1 ∷ 2 ∷ 7 ∷ 0 ∷ 1 ∷ 5 ∷ 2 ∷ 1 ∷ 5 ∷ []

-- what a buffer that holds so many 7s is left with
abbrev after : ℕ → ℕ → List ℕ
after A words = summary_after A log (replicate words 7)

pub record SummaryExamples : Type 0 where
  pub entries : flat_map entry (summary some_frames) ≡ three_entries
  pub answered : summarized 4 log 9 ≡ Ok 3
  pub left : after 4 9 ≡ three_entries
  -- a longer buffer keeps its tail, and so do words that make no whole entry
  pub longer : after 4 12 ≡ three_entries ++ (7 ∷ 7 ∷ 7 ∷ [])
  pub no_whole_entry : after 4 11 ≡ three_entries ++ (7 ∷ 7 ∷ [])
  -- one word less is an entry less
  pub too_short : summarized 4 log 8 ≡ Err BufferTooSmall
  pub as_found : after 4 8 ≡ replicate 8 7
  pub no_room : summarized 4 log 0 ≡ Err BufferTooSmall
  pub text_before_room : summarized 3 log 0 ≡ Err (UnknownActivity 0)
  pub text_as_found : after 3 9 ≡ replicate 9 7
  pub empty_before_room : summarized 4 [] 0 ≡ Err EmptyLog
  pub setting_first : summarized 1 [] 0 ≡ Err InvalidSetting

pub variant_examples : VariantExamples
unfolding opened
variant_examples =
    record {
      twice = refl;
      counts = refl;
      other_order = refl;
      other_number = refl;
      last_activity = refl;
      second_is_first = refl;
      fourth_is_not = refl;
      by_first_line = refl;
      in_order = refl;
      more_cases_lead = refl;
      later_line_follows = refl;
      none_leads_itself = refl;
    }

pub summary_examples : SummaryExamples
unfolding opened
summary_examples =
    record {
      entries = refl;
      answered = refl;
      left = refl;
      longer = refl;
      no_whole_entry = refl;
      too_short = refl;
      as_found = refl;
      no_room = refl;
      text_before_room = refl;
      text_as_found = refl;
      empty_before_room = refl;
      setting_first = refl;
    }
