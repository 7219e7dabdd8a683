-- A list whose words each stand for a place, with a buffer that has room for their lines, is
-- written, and any other call is refused: the check of the words and of the room finds the call's
-- refusal, whose number and value the answer has, and which leaves the buffer as it was.
-- Assumes nothing.
use Rattle.std.specs.Prelude.{None, Some, Result, Ok, Err}
use Prim.Native.Nat.{ℕ, ◌*◌, ◌/◌, ◌≤◌, ◌<◌}
use native.Mathlib.Omega.{arith}
use mathlib.Core.Path.{◌≡◌, refl, sym, ap, ◌∙◌}
use mathlib.Core.List.{List}
use borrow.Author.Tests.{lt-ltb, le-ltb, ltb-true, ltb-false}
use lib.ListN.{length}
use lib.Dec.{ltb}
use Rattle.foundation.specs.Buffers.{overwrite}
use Rattle.foundation.proofs.laws.Booleans.{by_test}
use Rattle.limits.specs.declared.Refusal.{Refusal}
use Rattle.limits.specs.declared.Refusal.TheVariants.{InvalidPlace, BufferTooSmall}
use Rattle.limits.specs.Refusals.{first_refusal, answer_number, answer_value, number_given, value_given}
use Rattle.limits.proofs.laws.AnswerNumbers.{AnsweredAs, refused_as, answered_as}
use Rattle.places.specs.Places.{words_fault, words_refusal}
use Rattle.places.proofs.laws.ListFaults.{has_room, list_checks}
use Rattle.writer.specs.Writing.{line_bytes, list_text, writing_refusal, written, written_after}

-- what a call answers and leaves in the buffer is as written
abbrev pub WrittenAs : List ℕ → List ℕ → Result ℕ Refusal → List ℕ → Type 0
WrittenAs words before =
    AnsweredAs (writing_refusal words (length before)) (length (list_text words)) (overwrite (list_text words) before) before

-- the bytes of a list may be more than a number holds, so the room is divided
room_divided : (words room : ℕ) → ltb (room / line_bytes) words ≡ ltb room (line_bytes * words)
room_divided words room =
    by_test
    (ltb room (line_bytes * words))
    (λ e. rw e (lt-ltb (room / line_bytes) words (omega (arith, ltb-true room (line_bytes * words) e))))
    (λ e. rw e (le-ltb (room / line_bytes) words (omega (arith, ltb-false room (line_bytes * words) e))))

module _ (words before : List ℕ) where
  -- the check of the words and of the room finds the call's refusal
  pub same_refusal : writing_refusal words (length before) ≡ words_refusal words (ltb (length before / line_bytes) (length words))
  unfolding writing_refusal
  same_refusal = ap (words_refusal words) (sym (room_divided (length words) (length before)))

  -- what the buffer would hold
  abbrev pub lines : List ℕ
  lines = overwrite (list_text words) before

  pub refused : {r : Refusal} → words_refusal words (ltb (length before / line_bytes) (length words)) ≡ Some r
      → WrittenAs words before (Err r) before
  refused e = refused_as (length (list_text words)) lines before (same_refusal ∙ e)

  -- refusal 7, and where there is no such fault 8
  pub invalid_refused : (index : ℕ) → words_fault 0 words ≡ Some (InvalidPlace index)
      → WrittenAs words before (Err (InvalidPlace index)) before
  unfolding writing_refusal words_refusal first_refusal
  invalid_refused index e = refused_as (length (list_text words)) lines before (rw e refl)

  pub short_refused : words_fault 0 words ≡ None → length before < line_bytes * length words
      → WrittenAs words before (Err BufferTooSmall) before
  unfolding writing_refusal words_refusal first_refusal
  short_refused valid less =
      refused_as (length (list_text words)) lines before (rw (valid, lt-ltb (length before) (line_bytes * length words) less) refl)

  -- a call that is not refused has room
  pub fits : words_refusal words (ltb (length before / line_bytes) (length words)) ≡ None → line_bytes * length words ≤ length before
  fits e =
      let short = ltb (length before / line_bytes) (length words) in
      ltb-false
      (length before)
      (line_bytes * length words)
      (sym (room_divided (length words) (length before)) ∙ (has_room words short e).1)

  pub lines_written : words_refusal words (ltb (length before / line_bytes) (length words)) ≡ None
      → WrittenAs words before (Ok (length (list_text words))) lines
  lines_written e = answered_as (length (list_text words)) lines before (same_refusal ∙ e)

-- what the checks of a call need
pub ruleset call_checks = (same_refusal, fits, list_checks)

-- what an answer is made of
unfoldable pub answer_opened : Unit {0}
unfolding written written_after answer_number answer_value number_given value_given
answer_opened = tt
