-- What a summary is, in words: every frame is in exactly one variant, each entry shows its
-- variant's least line, its frames and its cases, each entry leads all behind it, and cases and
-- frames add up to those of the log. Document 02, b). The test `alike` decides `SameVariant` of the
-- lines of a log.
-- Assumes nothing.
use Rattle.std.specs.Prelude.{ℕ, ◌≡◌, ◌<◌, ◌≤◌, List, map, length}
use Rattle.std.specs.List.{filter}
use Rattle.foundation.specs.Lists.{Each, Ordered, sum}
use Rattle.event_log_spec.specs.Frames.{Frame, total_cases}
use Rattle.variants_spec.specs.declared.Variant.{Variant}
use Rattle.variants_spec.specs.Variants.{SameVariant, trace_in, alike, frames_like}

-- one variant leads another: it has more cases, or as many and an earlier first line
pub data Leads (p q : Variant) : Type 0 where
  by_cases : q.cases < p.cases → Leads p q
  by_line : p.cases ≡ q.cases → p.first_line < q.first_line → Leads p q

-- an entry shows a variant
pub record EntryOf (frames : List Frame) (v : Variant) : Type 0 where
  pub in_log : v.first_line < length frames
  pub least : (line : ℕ) → line < length frames → SameVariant (trace_in frames v.first_line) (trace_in frames line) → v.first_line ≤ line
  pub frames_shown : v.frames ≡ length (frames_like frames v.first_line)
  pub cases_shown : v.cases ≡ total_cases (frames_like frames v.first_line)

-- the entries whose variant has a line
unfoldable pub entries_with : List Frame → List Variant → ℕ → List Variant
entries_with frames list line = filter (λ (v : Variant). alike frames v.first_line line) list

pub record SummaryOf (frames : List Frame) (list : List Variant) : Type 0 where
  pub entries : Each (EntryOf frames) list
  pub exactly_one : (line : ℕ) → line < length frames → length (entries_with frames list line) ≡ 1
  pub ascends : Ordered Leads list
  pub all_frames : sum (map (λ (v : Variant). v.frames) list) ≡ length frames
  pub all_cases : sum (map (λ (v : Variant). v.cases) list) ≡ total_cases frames
