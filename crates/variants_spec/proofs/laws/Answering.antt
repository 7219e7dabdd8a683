-- The checks of the call in their order: those of the log, and then the room. And what its answer
-- says: where nothing is refused the text is a log, its summary is a summary as the scope has it,
-- and the entries have room in the buffer.
-- Assumes nothing.
use Rattle.std.specs.Prelude.{Option, None, Some, Ok}
use Prim.Native.Nat.{ℕ, ◌≤◌}
use native.Mathlib.Omega.{arith}
use mathlib.Core.Path.{◌≡◌, ap}
use mathlib.Core.List.{List}
use lib.Dec.{ltb}
use lib.ListN.{length}
use borrow.Author.Tests.{ltb-false}
use Rattle.limits.specs.declared.Refusal.{Refusal}
use Rattle.limits.specs.declared.Refusal.TheVariants.{BufferTooSmall}
use Rattle.limits.specs.Refusals.{given, first_refusal, answered}
use Rattle.limits.specs.Settings.{bound_fault}
use Rattle.limits.proofs.laws.FirstOf.{given_none, before_last, last_decides, last_none}
use Rattle.limits.proofs.laws.AnswerNumbers.{answer_accepted}
use Rattle.event_log_spec.specs.Lines.{frames_of}
use Rattle.event_log_spec.specs.Checking.{checked_with, size_of, log_refusal, log_refusal_with, empty_fault, text_fault}
use Rattle.event_log_spec.proofs.laws.WiderBound.{accepted_widest}
use Rattle.variants_spec.specs.Variants.{variants}
use Rattle.variants_spec.specs.Summary.{entry_room, summary, summary_refusal, summarized}
use Rattle.variants_spec.specs.SummaryOf.{SummaryOf}
use Rattle.variants_spec.proofs.laws.Summing.{as_many, summary_of}

module _ (A : ℕ) (text : List ℕ) (words : ℕ) where
  -- 1, 6 and the text come first
  pub log_decides : (r : Refusal) → log_refusal (bound_fault A) None A text ≡ Some r → summary_refusal A text words ≡ Some r
  unfolding log_refusal_with first_refusal summary_refusal
  log_decides r e = before_last (bound_fault A) (empty_fault text) (text_fault A text) _ r e

  -- then the room
  pub room_decides : log_refusal (bound_fault A) None A text ≡ None
      → summary_refusal A text words ≡ given (ltb (entry_room words) (length (variants (frames_of text)))) BufferTooSmall
  unfolding log_refusal_with first_refusal summary_refusal
  room_decides e = last_decides (bound_fault A) (empty_fault text) (text_fault A text) _ e

  -- where nothing is refused
  module _ (n : ℕ) (answer : summarized A text words ≡ Ok n) where
    not_refused : (summary_refusal A text words ≡ None) × (length (summary (frames_of text)) ≡ n)
    unfolding summarized
    not_refused = answer_accepted (summary_refusal A text words) (length (summary (frames_of text))) n answer

    passed : (log_refusal (bound_fault A) None A text ≡ None) × (given (ltb (entry_room words) (length (variants (frames_of text)))) BufferTooSmall ≡ None)
    unfolding log_refusal_with first_refusal summary_refusal
    passed = last_none (bound_fault A) (empty_fault text) (text_fault A text) _ not_refused.0

    -- there is room for as many entries as are answered
    pub entries_fit : n ≤ entry_room words
    entries_fit =
        omega (
          arith,
          not_refused.1,
          as_many (frames_of text),
          ltb-false (entry_room words) (length (variants (frames_of text))) (given_none _ BufferTooSmall passed.1),
        )

    -- and what they show is a summary of the log
    pub entries_are : SummaryOf (frames_of text) (summary (frames_of text))
    unfolding checked_with
    entries_are =
        summary_of (frames_of text) (accepted_widest A text (size_of text) (ap (λ (o : Option Refusal). answered o (size_of text)) passed.0)).each
