-- What the call answers and leaves: the log's own checks come first, then the room for the entries,
-- and where all pass the entries are written.
-- Assumes nothing.
use Rattle.std.specs.Prelude.{Option, Some, Result, Ok, Err}
use Prim.Native.Nat.{ℕ, ◌≤◌, ◌<◌}
use mathlib.Core.Path.{◌≡◌, sym, ap, ◌∙◌}
use mathlib.Core.Bool.{Bool}
use mathlib.Core.List.{List, map, flat_map}
use lib.Dec.{ltb}
use lib.ListN.{length}
use borrow.Author.Tests.{lt-ltb, le-ltb}
use Rattle.std.proofs.lemmas.List.{length-map}
use Rattle.limits.specs.declared.Refusal.{Refusal}
use Rattle.limits.specs.declared.Refusal.TheVariants.{BufferTooSmall}
use Rattle.limits.specs.Refusals.{given}
use Rattle.limits.proofs.laws.AnswerNumbers.{AnsweredAs, answer_refused, answer_accepted, refused_as, answered_as}
use Rattle.foundation.specs.Buffers.{overwrite}
use Rattle.event_log_spec.specs.declared.LogSize.{LogSize}
use Rattle.event_log_spec.specs.Lines.{frames_of}
use Rattle.event_log_spec.specs.Checking.{checked, checked_with}
use Rattle.variants_spec.specs.Variants.{variants}
use Rattle.variants_spec.proofs.laws.Summing.{as_many}
use Rattle.variants_spec.proofs.laws.Answering.{log_decides, room_decides}
use Rattle.variants.specs.Words.{variant_word}
use Rattle.variants_spec.specs.Summary.{entry, entry_room, summary, summary_refusal}

module _ (A : ℕ) (text before : List ℕ) where
  abbrev refusal : Option Refusal
  refusal = summary_refusal A text (length before)

  abbrev made : List ℕ
  made = overwrite (flat_map entry (summary (frames_of text))) before

  -- the answer and the buffer
  abbrev pub Answers : Result ℕ Refusal → List ℕ → Type 0
  Answers = AnsweredAs refusal (length (summary (frames_of text))) made before

  pub log_refused : (r : Refusal) → checked A text ≡ Err r → Answers (Err r) before
  unfolding checked_with
  log_refused r e =
      refused_as
      (length (summary (frames_of text)))
      made
      before
      (log_decides A text (length before) r ((answer_refused _ _ r).0 e))

  module _ (size : LogSize) (accepted : checked A text ≡ Ok size) where
    room_left : refusal ≡ given (ltb (entry_room (length before)) (length (variants (frames_of text)))) BufferTooSmall
    unfolding checked_with
    room_left = room_decides A text (length before) (answer_accepted _ _ size accepted).0

    pub room_refused : (r : Refusal) → r ≡ BufferTooSmall → entry_room (length before) < length (variants (frames_of text)) → Answers (Err r) before
    room_refused r e short =
        refused_as
        (length (summary (frames_of text)))
        made
        before
        (room_left ∙ ap (λ (b : Bool). given b BufferTooSmall) (lt-ltb _ _ short) ∙ ap Some (sym e))

    pub entries_made : length (variants (frames_of text)) ≤ entry_room (length before) → Answers (Ok (length (summary (frames_of text)))) made
    entries_made enough =
        answered_as
        (length (summary (frames_of text)))
        made
        before
        (room_left ∙ ap (λ (b : Bool). given b BufferTooSmall) (le-ltb _ _ enough))

    -- the words of the variants are as many as the entries
    pub variants_counted : {words : List ℕ} → words ≡ map variant_word (summary (frames_of text)) → length words ≡ length (variants (frames_of text))
    variants_counted these = ap length these ∙ length-map (summary (frames_of text)) variant_word ∙ as_many (frames_of text)
