-- Reducing a list: what is kept, what the call answers and what it leaves in the second buffer.
-- Document 01, "Thinning and writing", thinning.
-- Assumes nothing.
use Rattle.std.specs.Prelude.{ℕ, Bool, not, List, ltb, length, Option, Result}
use Rattle.std.specs.List.{filter}
use Rattle.foundation.specs.Buffers.{overwrite}
use Rattle.limits.specs.declared.Refusal.{Refusal}
use Rattle.limits.specs.Refusals.{answer, answered}
use Rattle.places.specs.Places.{place_of, words_refusal}
use Rattle.reduction_spec.specs.Unions.{is_union}

-- a word is redundant, and dropped, exactly if its place is a union of at least two non-overlapping
-- places of the list
unfoldable pub redundant : List ℕ → ℕ → Bool
redundant words w = is_union words (place_of w)

-- the words that are kept, in their order
unfoldable pub reduced_words : List ℕ → List ℕ
reduced_words words = filter (λ (w : ℕ). not (redundant words w)) words

-- the second buffer is to have room for the whole list
unfoldable pub reduction_refusal : List ℕ → ℕ → Option Refusal
reduction_refusal words room = words_refusal words (ltb room (length words))

-- the call's answer for a second buffer of that many words: how many were kept
unfoldable pub reduced : List ℕ → ℕ → Result ℕ Refusal
reduced words room = answered (reduction_refusal words room) (length (reduced_words words))

-- what the second buffer holds on return: the kept words, then its old tail; after a refusal, what
-- it held before
unfoldable pub reduced_after : List ℕ → List ℕ → List ℕ
reduced_after words before =
    answer (λ (r : Refusal). before) (reduction_refusal words (length before)) (overwrite (reduced_words words) before)
