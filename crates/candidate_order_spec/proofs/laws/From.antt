-- A list from a given set on: where that set stands in the list, in a front part of it, or in the
-- images of a list; and the list from the first set of an end part is that end part, where no set
-- stands in the list twice.
-- Assumes nothing.
use Prim.Native.Nat.{ℕ, ◌<◌}
use native.Mathlib.Omega.{arith}
use mathlib.Core.Path.{◌≡◌, refl, sym, ap, ◌∙◌}
use mathlib.Core.Bool.{Bool, true, false, cond}
use mathlib.Core.List.{List, [], ◌∷◌, ◌++◌, map, nil≢cons}
use lib.Dec.{eqb}
use borrow.Author.Tests.{eqb-true, eqb-false, eq-eqb, ne_eqb}
use Rattle.foundation.specs.Lists.{Each, each_nil, each_cons, Ordered, ordered_cons}
use Rattle.foundation.proofs.laws.Booleans.{by_test, cond_either}
use Rattle.foundation.proofs.laws.Lists.{each_head}
use Rattle.foundation.proofs.laws.Each.{each_back}
use Rattle.places.specs.Succession.{from, first_set}

-- two sets differ
abbrev pub Apart : ℕ → ℕ → Type 0
Apart s t = s ≡ t → ⊥

from_here : (s : ℕ) (ts : List ℕ) → from s (s ∷ ts) ≡ s ∷ ts
unfolding from
from_here s ts = rw (eq-eqb s s refl)

-- s is not the first of the list
pub from_later : (s t : ℕ) (ts : List ℕ) → Apart s t → from s (t ∷ ts) ≡ from s ts
unfolding from
from_later s t ts apart = rw (ne_eqb s t apart)

-- what holds of each set of a list holds of each from s on
pub each_from : {P : ℕ → Type 0} (s : ℕ) {ts : List ℕ} → Each P ts → Each P (from s ts)
unfolding from
each_from s each_nil = each_nil
each_from {P} s (each_cons {x = t} here later) = cond_either (Each P) (eqb s t) (each_cons here later) (each_from s later)

-- the list from s on ends the list
pub from_ends : (s : ℕ) (ts : List ℕ) → (before : List ℕ) × (ts ≡ before ++ from s ts)
unfolding from
from_ends s [] = ([], refl)
from_ends s (t ∷ ts) =
    by_test
    (eqb s t)
    (λ e. ([], rw e))
    (λ e. let (before, rest) = from_ends s ts in (t ∷ before, rw e (ap (◌∷◌ t) rest)))

-- s stands in the first of two lists, or not
pub from_in_first : (s : ℕ) (ss ts rest : List ℕ) → from s ss ≡ s ∷ rest → from s (ss ++ ts) ≡ s ∷ (rest ++ ts)
unfolding from
from_in_first s [] ts rest e = absurd (nil≢cons e)
from_in_first s (t ∷ ss) ts rest e = go (eqb s t) e (from_in_first s ss ts rest)
  where
    go : (b : Bool) → cond b (t ∷ ss) (from s ss) ≡ s ∷ rest → (from s ss ≡ s ∷ rest → from s (ss ++ ts) ≡ s ∷ (rest ++ ts))
        → cond b (t ∷ (ss ++ ts)) (from s (ss ++ ts)) ≡ s ∷ (rest ++ ts)
    go true e later = ap (λ (l : List ℕ). l ++ ts) e
    go false e later = later e

pub from_in_second : (s : ℕ) {ss : List ℕ} (ts : List ℕ) → Each (Apart s) ss → from s (ss ++ ts) ≡ from s ts
from_in_second s ts each_nil = refl
from_in_second s ts (each_cons {x = t} {xs = ss} here later) = from_later s t (ss ++ ts) here ∙ from_in_second s ts later

-- the images of a list from the image of s on
pub from_map : (f : ℕ → ℕ) → ((s t : ℕ) → f s ≡ f t → s ≡ t) → (s : ℕ) (ts : List ℕ) → from (f s) (map f ts) ≡ map f (from s ts)
unfolding from
from_map f injective s [] = refl
from_map f injective s (t ∷ ts) =
    by_test
    (eqb s t)
    (λ e. rw (e, eq-eqb (f s) (f t) (ap f (eqb-true s t e))))
    (λ e. rw (e, ne_eqb (f s) (f t) (λ same. eqb-false s t e (injective s t same))) (from_map f injective s ts))

-- the list from the first set of its end part on; no set is 0, so where that part is empty nothing
-- is left
pub from_end : (before rest : List ℕ) → Each (λ (s : ℕ). 0 < s) before → Ordered Apart (before ++ rest)
    → from (first_set rest) (before ++ rest) ≡ rest
unfolding from first_set
from_end [] [] some distinct = refl
from_end [] (s ∷ rest) some distinct = from_here s rest
from_end (t ∷ before) rest (each_cons here later) (ordered_cons first distinct) =
    from_later (first_set rest) t (before ++ rest) (apart rest (each_back before rest first)) ∙ from_end before rest later distinct
  where
    apart : (rest : List ℕ) → Each (Apart t) rest → Apart (first_set rest) t
    apart [] e = λ none. omega arith
    apart (s ∷ rest) e = λ same. each_head e (sym same)
