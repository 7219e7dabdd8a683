-- Buffers hold the words that they stand for: where a run has written nothing, they are as they
-- were, and one word more is written after those that are there.
-- Assumes nothing.
use Rattle.std.specs.Borrow.{MutBor}
use Prim.Native.Nat.{ℕ, ◌+◌, ◌≤◌, ◌<◌}
use native.Mathlib.Omega.{arith}
use mathlib.Core.Path.{◌≡◌, refl, sym, ap, ◌∙◌}
use mathlib.Core.List.{List, [], ◌∷◌, ◌++◌}
use lib.ListN.{length, take, set, length-append, length-set}
use lib.Seq.{length-take-le}
use Rattle.foundation.proofs.laws.Buffers.{overwrite_front, overwrite_next}
use Rattle.candidate_visit.specs.Standing.{Holds}

module _ (buffer : MutBor (List ℕ)) {count : ℕ} (there : count ≤ length buffer.now) where
  pub how_many : length (take count buffer.now) ≡ count
  how_many = length-take-le count buffer.now there

  pub as_it_is : Holds (take count buffer.now) buffer buffer count
  as_it_is =
      record {
        count_is = sym how_many;
        left = sym (overwrite_front buffer.now count there);
        same_length = refl;
        same_buffer = refl;
      }

  pub word_more : (word : ℕ) → count < length buffer.now → {after : MutBor (List ℕ)} → after.now ≡ set buffer.now count word
      → after.ghost_name ≡ buffer.ghost_name → Holds (take count buffer.now ++ (word ∷ [])) buffer after (count + 1)
  word_more word room words same =
      record {
        count_is = omega (arith, how_many, length-append (take count buffer.now) (word ∷ []));
        left = words ∙ overwrite_next buffer.now count word room;
        same_length = ap length words ∙ length-set buffer.now count word;
        same_buffer = same;
      }
