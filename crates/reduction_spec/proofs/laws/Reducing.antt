-- The reduction of words that each stand for a place, with a second buffer that has room for all of
-- them, is not refused: it answers how many words it kept, and they can be taken from the front of
-- that buffer. Any other is refused, and a refusal leaves the buffer as it was.
-- Assumes nothing.
use Rattle.std.specs.Prelude.{None, Some, Result, Ok, Err}
use Prim.Native.Nat.{ℕ, ◌≤◌, ◌<◌}
use mathlib.Core.Path.{◌≡◌, refl}
use mathlib.Core.List.{List}
use borrow.Author.Tests.{lt-ltb, le-ltb, ltb-false}
use lib.Dec.{ltb}
use lib.ListN.{length, take}
use Rattle.foundation.specs.Buffers.{overwrite}
use Rattle.foundation.proofs.laws.Buffers.{take_overwritten}
use Rattle.limits.specs.declared.Refusal.{Refusal}
use Rattle.limits.specs.declared.Refusal.TheVariants.{InvalidPlace, BufferTooSmall}
use Rattle.limits.specs.Refusals.{first_refusal}
use Rattle.limits.proofs.laws.AnswerNumbers.{AnsweredAs, refused_as}
use Rattle.places.specs.Places.{words_fault, words_refusal}
use Rattle.places.proofs.laws.ListFaults.{has_room, all_valid, valid_no_fault}
use Rattle.reduction_spec.specs.Cover.{Listable}
use Rattle.reduction_spec.specs.Reduction.{reduced_words, reduction_refusal, reduced, reduced_after}

module _ (words : List ℕ) (places : Listable words) where
  not_refused : (room : ℕ) → length words ≤ room → reduction_refusal words room ≡ None
  unfolding reduction_refusal words_refusal first_refusal Listable
  not_refused room enough = rw (valid_no_fault 0 places, le-ltb room (length words) enough)

  pub reduced_kept : (room : ℕ) → length words ≤ room → reduced words room ≡ Ok (length (reduced_words words))
  unfolding reduced
  reduced_kept room enough = rw (not_refused room enough)

  pub kept_written : (before : List ℕ) → length words ≤ length before → reduced_after words before ≡ overwrite (reduced_words words) before
  unfolding reduced_after
  kept_written before enough = rw (not_refused (length before) enough)

  pub kept_taken : (before : List ℕ) → length words ≤ length before
      → take (length (reduced_words words)) (reduced_after words before) ≡ reduced_words words
  kept_taken before enough = rw (kept_written before enough) (take_overwritten before (reduced_words words))

-- what a call answers and leaves in the second buffer is as defined
abbrev pub ReducedAs : List ℕ → List ℕ → Result ℕ Refusal → List ℕ → Type 0
ReducedAs words before =
    AnsweredAs (reduction_refusal words (length before)) (length (reduced_words words)) (overwrite (reduced_words words) before) before

-- a refusal leaves the second buffer as it was
abbrev pub RefusedAs : List ℕ → List ℕ → Refusal → Type 0
RefusedAs words before r = ReducedAs words before (Err r) before

module _ (words before : List ℕ) where
  -- what the second buffer would hold
  abbrev pub list : List ℕ
  list = overwrite (reduced_words words) before

  -- refusal 7, and where there is no such fault 8
  pub invalid_refused : (index : ℕ) → words_fault 0 words ≡ Some (InvalidPlace index) → RefusedAs words before (InvalidPlace index)
  unfolding reduction_refusal words_refusal first_refusal
  invalid_refused index e = refused_as (length (reduced_words words)) list before (rw e refl)

  pub short_refused : words_fault 0 words ≡ None → length before < length words → RefusedAs words before BufferTooSmall
  unfolding reduction_refusal words_refusal first_refusal
  short_refused e less =
      refused_as (length (reduced_words words)) list before (rw (e, lt-ltb (length before) (length words) less) refl)

  -- what is not refused is a list of places, for which there is room
  pub checked : reduction_refusal words (length before) ≡ None → Listable words × (length words ≤ length before)
  unfolding Listable reduction_refusal
  checked e =
      let (valid, enough) = has_room words (ltb (length before) (length words)) e in
      (all_valid 0 words valid, ltb-false (length before) (length words) enough)
