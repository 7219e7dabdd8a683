-- The summary of a log's variants: which of two leads, the list in that order, the words of its
-- entries, and what the call answers and leaves in the buffer that it is lent. Document 02, b).
-- Assumes nothing.
use Rattle.std.specs.Prelude.{ℕ, ◌/◌, Bool, ◌||◌, ◌&&◌, List, [], ◌∷◌, eqb, ltb, length, Option, None, Result}
use mathlib.Core.List.{flat_map}
use Rattle.foundation.specs.Buffers.{overwrite}
use Rattle.sorting.specs.Sorting.{sorted_by}
use Rattle.limits.specs.declared.Refusal.{Refusal}
use Rattle.limits.specs.declared.Refusal.TheVariants.{BufferTooSmall}
use Rattle.limits.specs.Refusals.{given, first_refusal, answer, answered}
use Rattle.limits.specs.Settings.{bound_fault}
use Rattle.event_log_spec.specs.Frames.{Frame}
use Rattle.event_log_spec.specs.Lines.{frames_of}
use Rattle.event_log_spec.specs.Checking.{empty_fault, text_fault}
use Rattle.variants_spec.specs.declared.Variant.{Variant}
use Rattle.variants_spec.specs.Variants.{variants}

-- more cases lead; of equals, the earlier first line
unfoldable pub leads : Variant → Variant → Bool
leads p q = ltb q.cases p.cases || (eqb p.cases q.cases && ltb p.first_line q.first_line)

-- all variants, each before those that it leads
unfoldable pub summary : List Frame → List Variant
summary frames = sorted_by leads (variants frames)

-- an entry is a word for each thing that it shows
abbrev pub entry_words : ℕ
entry_words = 3

abbrev pub entry : Variant → List ℕ
entry v = v.first_line ∷ v.frames ∷ v.cases ∷ []

-- how many whole entries a buffer of so many words has room for
abbrev pub entry_room : ℕ → ℕ
entry_room words = words / entry_words

-- the call's refusal for a buffer of so many words: 1, 6, the text, then 8, where
-- the text has more variants than there is room for
unfoldable pub summary_refusal : ℕ → List ℕ → ℕ → Option Refusal
summary_refusal A text words =
    first_refusal
    (record {
      settings = bound_fault A;
      arguments = None;
      places = None;
      map = None;
      room = None;
      emptiness = empty_fault text;
      lines = text_fault A text;
      result_room = given (ltb (entry_room words) (length (variants (frames_of text)))) BufferTooSmall;
    })

-- the call's answer: how many entries there are
unfoldable pub summarized : ℕ → List ℕ → ℕ → Result ℕ Refusal
summarized A text words = answered (summary_refusal A text words) (length (summary (frames_of text)))

-- what a buffer that held these words holds on return: the entries, then its old tail; after a
-- refusal, what it held
unfoldable pub summary_after : ℕ → List ℕ → List ℕ → List ℕ
summary_after A text before =
    answer
    (λ (r : Refusal). before)
    (summary_refusal A text (length before))
    (overwrite (flat_map entry (summary (frames_of text))) before)
