-- The words that can be the next part and cover an activity, counted one word after the other: a
-- word that can be the next part adds one to the choices of each of its activities. There are no
-- more choices than words.
-- Assumes nothing.
use Prim.Native.Nat.{ℕ, ◌+◌, ◌^◌, ◌≤◌, ◌<◌}
use native.Mathlib.Omega.{arith}
use mathlib.Core.Path.{◌≡◌, refl, ap, ◌∙◌}
use mathlib.Core.Bool.{Bool, true, false, cond, ◌&&◌}
use mathlib.Core.List.{List, [], ◌∷◌}
use borrow.Author.Tests.{eqb-true, eqb-false}
use lib.ListN.{length, get_or, take, replicate, length-append, get_or-replicate}
use Rattle.std.proofs.lemmas.List.{take_more}
use Rattle.std.specs.List.{filter}
use Rattle.foundation.proofs.laws.Booleans.{by_test}
use Rattle.std.proofs.lemmas.List.Elements.{filter-append}
use Rattle.places.specs.Sets.{has, member}
use Rattle.reduction_spec.specs.Cover.{usable, choices}
use Rattle.cover_choice.specs.Choosing.{Growable, Grown, Counts}

module _ (whole left : ℕ) (words : List ℕ) where
  -- the choices with one word more
  module _ (at : ℕ) (l : at < length words) where
    abbrev w : ℕ
    w = get_or words at 0

    choices_more : (a : ℕ)
        → choices (take (at + 1) words) whole left a
        ≡ choices (take at words) whole left a + length (cond (usable whole left w && member w a) (w ∷ []) [])
    unfolding choices
    choices_more a =
        let test : ℕ → Bool = λ (v : ℕ). usable whole left v && member v a in
        rw (take_more words at 0 l, filter-append test (take at words) (w ∷ []))
        (length-append (filter test (take at words)) (filter test (w ∷ [])))

    pub choices_same : usable whole left w ≡ false → (a : ℕ) → choices (take (at + 1) words) whole left a ≡ choices (take at words) whole left a
    choices_same e a = rw (choices_more a, e) (omega arith)

    pub choices_one : usable whole left w ≡ true → (a : ℕ) → choices (take (at + 1) words) whole left a ≡ choices (take at words) whole left a + has w a
    choices_one e a = choices_more a ∙ rw e (ap (λ (n : ℕ). choices (take at words) whole left a + n) counted)
      where
        counted : length (cond (member w a) (w ∷ []) []) ≡ has w a
        counted =
            by_test
            (member w a)
            (λ e. rw e (omega (arith, eqb-true (has w a) 1 e)))
            (λ e. rw e (omega (arith, eqb-false (has w a) 1 e)))

-- those before an index were counted
pub record Counted (words : List ℕ) (whole left : ℕ) (counts : List ℕ) (at : ℕ) : Type 0 where
  pub few : (a : ℕ) → a < 32 → get_or counts a 0 ≤ at
  pub counted : Counts (take at words) whole left counts

module _ {words : List ℕ} {whole left : ℕ} where
  pub none_counted : Counted words whole left (replicate 32 0) 0
  unfolding choices
  none_counted =
      record {
        few = λ a l. omega (arith, get_or-replicate {A = ℕ} 32 a 0 0 l);
        counted = record { wide = refl; counted = λ a l. get_or-replicate {A = ℕ} 32 a 0 0 l };
      }

  module _ {counts : List ℕ} {at : ℕ} (c : Counted words whole left counts at) (l : at < length words) where
    -- a count is at most the number of words so far, so it can grow
    pub growable : length words < 2 ^ 64 → Growable counts
    growable fits = record { wide = c.counted.wide; small = λ a small. omega (arith, l, c.few a small) }

    -- a word that cannot be the next part, and one that can
    pub not_usable : usable whole left (get_or words at 0) ≡ false → Counted words whole left counts (at + 1)
    not_usable e =
        record {
          few = λ a small. omega (arith, c.few a small);
          counted =
              record {
                wide = c.counted.wide;
                counted = λ a small. omega (arith, choices_same whole left words at l e a, c.counted.counted a small);
              };
        }

    pub counts_word : {after : List ℕ} → usable whole left (get_or words at 0) ≡ true
        → Grown (get_or words at 0) counts after → Counted words whole left after (at + 1)
    counts_word e grown =
        record {
          few = λ a small. omega (arith, c.few a small, grown.counted a small);
          counted =
              record {
                wide = grown.wide;
                counted = λ a small.
                    omega (arith, choices_one whole left words at l e a, c.counted.counted a small, grown.counted a small);
              };
        }

-- what a loop over the words needs
pub ruleset counting = (growable, not_usable, counts_word)
