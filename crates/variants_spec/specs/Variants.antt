-- The variants of a log, which document 02 calls its kinds. Two traces are of one variant when each
-- activity occurs equally often in both, whatever the order: their Parikh vectors, as source
-- document 002 calls these counts, are equal. Document 02, b).
-- Assumes nothing.
use Rattle.std.specs.Prelude.{ℕ, ◌≡◌, Bool, not, List, map, eqb, length}
use Rattle.std.specs.List.{filter, list_all, list_any}
use Rattle.foundation.specs.Lists.{up_to}
use Rattle.limits.specs.Settings.{most_activities}
use Rattle.event_log_spec.specs.Frames.{Frame, total_cases, frame_in}
use Rattle.variants_spec.specs.declared.Variant.{Variant}

-- how often an activity occurs in a trace
unfoldable pub occurrences : List ℕ → ℕ → ℕ
occurrences trace a = length (filter (eqb a) trace)

-- the counts of all activities that a log can name, by their codes: the trace's Parikh vector
unfoldable pub tally : List ℕ → List ℕ
tally trace = map (occurrences trace) (up_to most_activities)

-- of one variant ("of one kind"): each activity occurs equally often in both
unfoldable pub SameVariant : List ℕ → List ℕ → Type 0
SameVariant s t = (a : ℕ) → occurrences s a ≡ occurrences t a

-- the same as a test of the activities that a log can name
unfoldable pub same_variant : List ℕ → List ℕ → Bool
same_variant s t = list_all (λ (a : ℕ). eqb (occurrences s a) (occurrences t a)) (up_to most_activities)

module _ (frames : List Frame) where
  -- the trace of a line
  abbrev pub trace_in : ℕ → List ℕ
  trace_in line = (frame_in frames line).trace

  -- whether two lines are of one variant
  abbrev pub alike : ℕ → ℕ → Bool
  alike line other = same_variant (trace_in line) (trace_in other)

  -- the frames of a line's variant
  unfoldable pub frames_like : ℕ → List Frame
  frames_like line = filter (λ (f : Frame). same_variant (trace_in line) f.trace) frames

  -- whether a line is the first of its variant: no line before it is of it
  unfoldable pub is_first : ℕ → Bool
  is_first line = not (list_any (alike line) (up_to line))

  -- the variant of a first line: that line, its frames, their cases
  unfoldable pub variant_of : ℕ → Variant
  variant_of line =
      record {
        first_line = line;
        frames = length (frames_like line);
        cases = total_cases (frames_like line);
      }

  -- all variants, by their first lines
  unfoldable pub variants : List Variant
  variants = map variant_of (filter is_first (up_to (length frames)))
