-- Numbers in ascending order are determined by what functions sum to over them, for which the order
-- does not matter: two ascending lists of the same sums begin with the same number, the least of
-- both, and so on. So any way of sorting numbers gives the same list, and the standard library's
-- sort gives the sorted one.
-- Assumes nothing.
use Prim.Native.Nat.{ℕ, suc, ◌+◌, ◌≤◌, ◌<◌}
use native.Mathlib.Omega.{arith}
use mathlib.Core.Path.{◌≡◌, refl, sym, ap, ap₂, ◌∙◌}
use mathlib.Core.Bool.{cond}
use mathlib.Core.List.{List, [], ◌∷◌, map}
use lib.Dec.{ltb}
use lib.ListN.{length, get_or}
use borrow.Author.Tests.{ltb-true, ltb-false}
use Rattle.std.specs.List.Sorted.{IsPermutation, IsSorted, IsNonDecreasingBy}
use Rattle.std.specs.Ordering.{nat_cmp}
use Rattle.std.proofs.lemmas.List.Sorted.{IsNonDecreasingBy-from_sort, IsNonDecreasingBy-drop}
use Rattle.foundation.specs.Lists.{Each, each_nil, each_cons, Ordered, ordered_nil, ordered_cons, sum}
use Rattle.foundation.proofs.laws.Booleans.{by_test}
use Rattle.sorting.specs.Sorting.{sorted}
use Rattle.sorting.proofs.laws.SameSums.{SameSums, moved_sums}
use Rattle.sorting.proofs.laws.Sorted.{sorted_moves, sorted_ascends}

-- how many of some numbers are lower than one: none, where it is the first of ascending ones
abbrev lower : ℕ → ℕ → ℕ
lower m n = cond (ltb n m) 1 0

none_lower : (m : ℕ) {xs : List ℕ} → Each (◌≤◌ m) xs → sum (map (lower m) xs) ≡ 0
none_lower m each_nil = refl
none_lower m (each_cons {x = n} here later) =
    by_test (ltb n m) (λ t. absurd (omega (arith, here, ltb-true n m t))) (λ f. rw f (omega (arith, none_lower m later)))

first_lowest : (m n : ℕ) (rest : ℕ) → lower m n + rest ≡ 0 → m ≤ n
first_lowest m n rest e = by_test (ltb n m) (λ t. absurd (omega (arith, rw t at e))) (λ f. ltb-false n m f)

pub ascending_same : {xs ys : List ℕ} → Ordered ◌≤◌ xs → Ordered ◌≤◌ ys → SameSums xs ys → xs ≡ ys
ascending_same ordered_nil ordered_nil same = refl
ascending_same ordered_nil (ordered_cons first rest) same = absurd (omega (arith, same (λ n. 1)))
ascending_same (ordered_cons first rest) ordered_nil same = absurd (omega (arith, same (λ n. 1)))
ascending_same (ordered_cons {x = m} {xs = xs} first rest) (ordered_cons {x = n} {xs = ys} first' rest') same =
    ap₂ ◌∷◌ head (ascending_same rest rest' λ f. omega (arith, same f, ap f head))
  where
    below : m ≤ n
    below = first_lowest m n (sum (map (lower m) ys)) (sym (same (lower m)) ∙ none_lower m (each_cons (omega arith) first))

    above : n ≤ m
    above = first_lowest n m (sum (map (lower n) xs)) (same (lower n) ∙ none_lower n (each_cons (omega arith) first'))

    head : m ≡ n
    head = omega (arith, below, above)

-- so lists of the same sums are sorted to the same list
pub same_sorted : (xs ys : List ℕ) → SameSums xs ys → sorted xs ≡ sorted ys
same_sorted xs ys same =
    ascending_same
    (sorted_ascends xs)
    (sorted_ascends ys)
    (λ f. sym (moved_sums xs (sorted xs) (sorted_moves ltb xs) f) ∙ same f ∙ moved_sums ys (sorted ys) (sorted_moves ltb ys) f)

-- what ascends by index ascends
each_indexed : {P : ℕ → Type 0} (xs : List ℕ) → ((k : ℕ) → k < length xs → P (get_or xs k 0)) → Each P xs
each_indexed [] h = each_nil
each_indexed (x ∷ xs) h = each_cons (h 0 (omega arith)) (each_indexed xs λ k less. h (suc k) (omega arith))

ordered_indexed : (xs : List ℕ) → IsNonDecreasingBy (λ n. n) xs → Ordered ◌≤◌ xs
ordered_indexed [] h = ordered_nil
ordered_indexed (x ∷ xs) h =
    ordered_cons
    (each_indexed xs λ k less. h 0 (suc k) 0 (omega arith) (omega arith))
    (ordered_indexed xs (IsNonDecreasingBy-drop (λ n. n) 1 (x ∷ xs) h))

-- what the library's sort leaves ascends, and is the sorted list
pub library_ascends : (after : List ℕ) → IsSorted nat_cmp after → Ordered ◌≤◌ after
library_ascends after ascends = ordered_indexed after (IsNonDecreasingBy-from_sort (λ n. n) after ascends)

pub library_sorted : (before after : List ℕ) → IsPermutation before after → IsSorted nat_cmp after → after ≡ sorted before
library_sorted before after moves ascends =
    ascending_same
    (library_ascends after ascends)
    (sorted_ascends before)
    (λ f. sym (moved_sums before after moves f) ∙ moved_sums before (sorted before) (sorted_moves ltb before) f)
