-- Slots that get the words of a run, one after the other.
-- Assumes nothing.
use Rattle.std.proofs.Common.{ℕ, ◌+◌, ◌≤◌, ◌<◌, ◌≡◌, List, [], ◌∷◌, ◌++◌, length, take, set, sym, ap, ◌∙◌, arith}
use mathlib.Core.Path.{ap₂}
use Rattle.std.specs.List.{range_with_len}
use Rattle.std.proofs.Math.Seq.{take_all}
use Rattle.std.proofs.lemmas.List.{take_more, take_more_set}
use Rattle.std.proofs.lemmas.List.FromFn.{length-range_with_len, get_or-range_with_len}

pub one_word : (slots : List ℕ) (first count at : ℕ) → take at slots ≡ take at (range_with_len first count) → at < length slots → at < count
    → take (at + 1) (set slots at (first + at)) ≡ take (at + 1) (range_with_len first count)
one_word slots first count at so_far within short =
    take_more_set slots at (first + at) within
    ∙ ap₂ (λ (l : List ℕ) (word : ℕ). l ++ (word ∷ [])) so_far (sym (get_or-range_with_len first count at 0 short))
    ∙ sym (take_more (range_with_len first count) at 0 (omega (arith, length-range_with_len first count)))

pub all_words : (slots : List ℕ) (first count at room : ℕ) → take at slots ≡ take at (range_with_len first count) → length slots ≤ at → at ≡ room
    → slots ≡ take room (range_with_len first count)
all_words slots first count at room words full e = sym (take_all at slots full) ∙ words ∙ ap (λ (n : ℕ). take n (range_with_len first count)) e
