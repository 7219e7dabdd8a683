-- The definition of a reduced list, tried on the places of the source's Figure 1 and on unions and
-- near-misses of small places.
-- Assumes nothing.
use Rattle.std.specs.Prelude.{Ok, Err}
use Prim.Native.Nat.{ℕ}
use mathlib.Core.Path.{◌≡◌, refl}
use mathlib.Core.Bool.{true, false}
use mathlib.Core.List.Memᴰ
use mathlib.Core.List.{List, [], ◌∷◌, ◌++◌, map}
use lib.Dec.{lit≤}
use Rattle.foundation.specs.Lists.{each_nil, each_cons}
use Rattle.limits.specs.declared.Refusal.TheVariants.{InvalidPlace, BufferTooSmall}
use Rattle.places.specs.Places.{place, word}
use Rattle.places.proofs.Examples.{figure1}
use Rattle.reduction_spec.specs.Unions.{UnionOf}
use Rattle.reduction_spec.specs.Cover.{usable, parts_of, choices, balanced}
use Rattle.reduction_spec.specs.Reduction.{reduced_words, reduced, reduced_after}
use Rattle.reduction_spec.proofs.Opened.{opened}

-- a list word, inputs then outputs
abbrev pair : ℕ → ℕ → ℕ
pair inputs outputs = word (place inputs outputs)

-- p1 to p5 of Figure 1; p1 and p5 together are the redundant place that the text before Definition
-- 9 adds
abbrev five : List ℕ
five = map word figure1

-- 1/1, 2/2 and 4/4, then all three together
abbrev three : List ℕ
three = pair 1 1 ∷ pair 2 2 ∷ pair 4 4 ∷ pair 7 7 ∷ []

pub record Examples : Type 0 where
  pub redundant : reduced_words (five ++ (pair 0x0031 0x0006 ∷ [])) ≡ five
  pub union_first : reduced_words (pair 0x0031 0x0006 ∷ five) ≡ five
  pub as_sentence : UnionOf (pair 0x0031 0x0006 ∷ five) (place 0x0031 0x0006)
  -- Definition 9 would drop every place for itself as a single part
  pub single_part : reduced_words five ≡ five
  pub alone : reduced_words (pair 1 2 ∷ []) ≡ pair 1 2 ∷ []
  -- a repeated word is not two parts of itself, and both fare alike
  pub repeated : reduced_words (pair 1 2 ∷ pair 1 2 ∷ []) ≡ pair 1 2 ∷ pair 1 2 ∷ []
  pub repeated_union : reduced_words (pair 3 3 ∷ pair 1 1 ∷ pair 3 3 ∷ pair 2 2 ∷ []) ≡ pair 1 1 ∷ pair 2 2 ∷ []
  pub of_two : reduced_words (pair 2 2 ∷ pair 4 4 ∷ pair 6 6 ∷ []) ≡ pair 2 2 ∷ pair 4 4 ∷ []
  pub of_three : reduced_words three ≡ pair 1 1 ∷ pair 2 2 ∷ pair 4 4 ∷ []
  -- a dropped place is still a part of others: 7/7 is 3/3 and 4/4 too
  pub nested : reduced_words (pair 1 1 ∷ pair 2 2 ∷ pair 3 3 ∷ pair 4 4 ∷ pair 7 7 ∷ []) ≡ pair 1 1 ∷ pair 2 2 ∷ pair 4 4 ∷ []
  -- two parts that share an input, or an output, are no union
  pub shares_input : reduced_words (pair 3 1 ∷ pair 6 2 ∷ pair 7 3 ∷ []) ≡ pair 3 1 ∷ pair 6 2 ∷ pair 7 3 ∷ []
  pub shares_output : reduced_words (pair 1 3 ∷ pair 2 6 ∷ pair 3 7 ∷ []) ≡ pair 1 3 ∷ pair 2 6 ∷ pair 3 7 ∷ []
  pub uncovered : reduced_words (pair 1 1 ∷ pair 2 2 ∷ pair 7 3 ∷ []) ≡ pair 1 1 ∷ pair 2 2 ∷ pair 7 3 ∷ []
  pub uncovered_output : reduced_words (pair 1 1 ∷ pair 2 2 ∷ pair 3 7 ∷ []) ≡ pair 1 1 ∷ pair 2 2 ∷ pair 3 7 ∷ []
  pub answers : reduced three 4 ≡ Ok 3
  pub none : reduced [] 0 ≡ Ok 0
  pub too_short : reduced three 3 ≡ Err BufferTooSmall
  pub place_before_room : reduced (pair 1 1 ∷ pair 1 0 ∷ []) 1 ≡ Err (InvalidPlace 1)
  pub tail_kept : reduced_after three (9 ∷ 9 ∷ 9 ∷ 8 ∷ 7 ∷ []) ≡ pair 1 1 ∷ pair 2 2 ∷ pair 4 4 ∷ 8 ∷ 7 ∷ []
  pub refused_as_found : reduced_after three (9 ∷ 9 ∷ 9 ∷ []) ≡ 9 ∷ 9 ∷ 9 ∷ []
  -- a part has activities that are left alone, and is not the whole
  pub part : usable (pair 7 7) (pair 6 6) (pair 2 4) ≡ true
  pub taken : usable (pair 7 7) (pair 6 6) (pair 1 2) ≡ false
  pub itself : usable (pair 7 7) (pair 7 7) (pair 7 7) ≡ false
  pub parts : parts_of (pair 8 1 ∷ three) (pair 7 7) (pair 7 7) ≡ pair 1 1 ∷ pair 2 2 ∷ pair 4 4 ∷ []
  pub parts_of_rest : parts_of (pair 8 1 ∷ three) (pair 7 7) (pair 6 6) ≡ pair 2 2 ∷ pair 4 4 ∷ []
  pub choice : choices (pair 3 1 ∷ three) (pair 7 7) (pair 7 7) 0 ≡ 2
  pub no_choice : choices three (pair 7 7) (pair 6 6) 0 ≡ 0
  -- single pairs make up as many inputs as outputs, and no more
  pub evenly : balanced three (pair 7 7) (pair 7 7) ≡ true
  pub one_input_more : balanced three (pair 15 7) (pair 15 7) ≡ false
  pub one_output_more : balanced three (pair 7 15) (pair 7 15) ≡ false

pub examples : Examples
unfolding opened
examples =
    record {
      redundant = refl;
      union_first = refl;
      as_sentence =
          record {
            parts = place 0x0001 0x0004 ∷ place 0x0030 0x0002 ∷ [];
            several = lit≤ tt;
            listed =
                each_cons
                (Memᴰ.tail (Memᴰ.head refl))
                (each_cons
                (Memᴰ.tail (Memᴰ.tail (Memᴰ.tail (Memᴰ.tail (Memᴰ.tail (Memᴰ.head refl))))))
                each_nil);
            apart = refl;
            joined = refl;
          };
      single_part = refl;
      alone = refl;
      repeated = refl;
      repeated_union = refl;
      of_two = refl;
      of_three = refl;
      nested = refl;
      shares_input = refl;
      shares_output = refl;
      uncovered = refl;
      uncovered_output = refl;
      answers = refl;
      none = refl;
      too_short = refl;
      place_before_room = refl;
      tail_kept = refl;
      refused_as_found = refl;
      part = refl;
      taken = refl;
      itself = refl;
      parts = refl;
      parts_of_rest = refl;
      choice = refl;
      no_choice = refl;
      evenly = refl;
      one_input_more = refl;
      one_output_more = refl;
    }
