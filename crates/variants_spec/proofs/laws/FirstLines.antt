-- Every line has exactly one first line, the least of its variant: it is the least line that is of
-- one variant with it, and no two first lines are of one variant with the same line, since the
-- later of them would have the earlier before it.
-- Assumes nothing.
use Prim.Native.Nat.{ℕ, zero, suc, ◌≤◌, ◌<◌}
use native.Mathlib.Omega.{arith}
use mathlib.Core.Path.{◌≡◌, refl, ap, sym, ◌∙◌}
use mathlib.Core.Bool.{Bool, true, false, cond, not, true≢false, false≢true}
use mathlib.Core.List.{List, map}
use lib.Dec.{eqb, ltb}
use lib.ListN.{length}
use borrow.Author.Tests.{eq-eqb, ne_eqb, ltb-true, ltb-false}
use Rattle.std.specs.List.{filter, list_any}
use Rattle.foundation.specs.Lists.{each_nil, each_cons, up_to, sum}
use Rattle.foundation.proofs.laws.Booleans.{by_test}
use Rattle.foundation.proofs.laws.Each.{each_imply, each_append, none_each, each_none, each_up_to, up_to_each}
use Rattle.foundation.proofs.laws.Sums.{sum_filter, sum_one}
use Rattle.foundation.proofs.laws.Lists.{map_same}
use Rattle.event_log_spec.specs.Frames.{Frame}
use Rattle.variants_spec.specs.Variants.{trace_in, alike, is_first}
use Rattle.variants_spec.proofs.laws.SameVariants.{same_reflexive, same_back, same_onward, same_alike}

-- the least number that passes a test
record Least (p : ℕ → Bool) (n : ℕ) : Type 0 where
  number : ℕ
  within : number ≤ n
  passes : p number ≡ true
  before : list_any p (up_to number) ≡ false

-- a look through the numbers below n
data Looked (p : ℕ → Bool) (n : ℕ) : Type 0 where
  found : Least p n → Looked p n
  none : list_any p (up_to n) ≡ false → Looked p n

module _ (p : ℕ → Bool) where
  here : (n : ℕ) → p n ≡ true → list_any p (up_to n) ≡ false → Least p n
  here n e f = record { number = n; within = omega arith; passes = e; before = f }

  look : (n : ℕ) → Looked p n
  look zero = none refl
  look (suc n) = go (look n)
    where
      raised : Least p n → Least p (suc n)
      raised l = record { number = l.number; within = omega (arith, l.within); passes = l.passes; before = l.before }

      go : Looked p n → Looked p (suc n)
      go (found l) = found (raised l)
      go (none f) =
          by_test
          (p n)
          (λ t. found (raised (here n t f)))
          (λ g. none (each_none p (each_append (none_each p (up_to n) f) (each_cons g each_nil))))

  least_passing : (n : ℕ) → p n ≡ true → Least p n
  least_passing n e = go (look n)
    where
      go : Looked p n → Least p n
      go (found l) = l
      go (none f) = here n e f

module _ (frames : List Frame) where
  alike_onward : (k l m : ℕ) → alike frames k l ≡ true → alike frames l m ≡ true → alike frames k m ≡ true
  alike_onward k l m = same_onward (trace_in frames k) (trace_in frames l) (trace_in frames m)

  alike_back : (k l : ℕ) → alike frames k l ≡ true → alike frames l k ≡ true
  alike_back k l = same_back (trace_in frames k) (trace_in frames l)

  -- the first line of a line's variant
  pub record FirstOf (line : ℕ) : Type 0 where
    pub first : ℕ
    pub within : first ≤ line
    pub is_one : is_first frames first ≡ true
    pub of_it : alike frames first line ≡ true

  pub first_of : (line : ℕ) → FirstOf line
  unfolding is_first
  first_of line =
      record {
        first = l.number;
        within = l.within;
        is_one =
            ap not
            (each_none
            (alike frames l.number)
            (each_imply
            (λ other fails. sym (same_alike (trace_in frames line) (trace_in frames l.number) (trace_in frames other) l.passes) ∙ fails)
            (none_each (alike frames line) (up_to l.number) l.before)));
        of_it = alike_back line l.number l.passes;
      }
    where
      l : Least (alike frames line) line
      l = least_passing (alike frames line) line (same_reflexive (trace_in frames line))

  -- no line before a first line is of its variant
  pub first_least : (first line : ℕ) → is_first frames first ≡ true → alike frames first line ≡ true → first ≤ line
  unfolding is_first
  first_least first line is of_it =
      by_test
      (ltb line first)
      (λ t. absurd (true≢false (sym of_it ∙ up_to_each first (none_each (alike frames first) (up_to first) (none is)) line (ltb-true line first t))))
      (λ f. ltb-false line first f)
    where
      none : {b : Bool} → not b ≡ true → b ≡ false
      none {b = true} e = absurd (false≢true e)
      none {b = false} e = refl

  pub first_once : (k l line : ℕ) → is_first frames k ≡ true → is_first frames l ≡ true → alike frames k line ≡ true → alike frames l line ≡ true → k ≡ l
  first_once k l line is is' of_it of_it' =
      omega (
        arith,
        first_least k l is (alike_onward k line l of_it (alike_back l line of_it')),
        first_least l k is' (alike_onward l line k of_it' (alike_back k line of_it)),
      )

  -- so of all first lines exactly one counts a line, with its weight
  pub counted_once : (weight line : ℕ) → line < length frames
      → sum (map (λ (first : ℕ). cond (alike frames first line) weight 0) (filter (is_first frames) (up_to (length frames)))) ≡ weight
  counted_once weight line less =
      sum_filter (λ (first : ℕ). cond (alike frames first line) weight 0) (is_first frames) (up_to (length frames))
      ∙ ap sum (map_same _ _ (each_up_to (length frames) λ k l. one k))
      ∙ sum_one weight f.first (length frames) (omega (arith, f.within, less))
    where
      f : FirstOf line
      f = first_of line

      one : (k : ℕ) → cond (is_first frames k) (cond (alike frames k line) weight 0) 0 ≡ cond (eqb f.first k) weight 0
      one k =
          by_test
          (is_first frames k)
          (λ is. by_test
          (alike frames k line)
          (λ t. rw (is, t, eq-eqb f.first k (first_once f.first k line f.is_one is f.of_it t)) refl)
          (λ g. rw (is, g, ne_eqb f.first k (λ same. true≢false (sym f.of_it ∙ ap (λ (m : ℕ). alike frames m line) same ∙ g))) refl))
          (λ not_first. rw (not_first, ne_eqb f.first k (λ same. true≢false (sym f.is_one ∙ ap (is_first frames) same ∙ not_first))) refl)
