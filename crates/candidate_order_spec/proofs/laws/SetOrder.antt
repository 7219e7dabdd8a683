-- The list of sets is in the stated order, and so holds each set once: with each code one more the
-- order stays, a set of code 0 alone comes before those that have more, and all of them come before
-- those without code 0.
-- Assumes nothing.
use Prim.Native.Nat.{ℕ, zero, suc, ◌<◌, ◌≤◌, suc-le-suc}
use native.Mathlib.Nat.{zero-lt-suc}
use native.Mathlib.Omega.{arith}
use mathlib.Core.Path.{◌≡◌}
use mathlib.Core.List.{List, [], ◌∷◌, map}
use lib.ListN.{length}
use Rattle.foundation.specs.Lists.{Each, Ordered, ordered_nil, ordered_cons}
use Rattle.foundation.proofs.laws.Each.{each_imply, each_append, each_map}
use Rattle.foundation.proofs.laws.Ordered.{ordered_among, ordered_distinct, ordered_append, ordered_map}
use Rattle.limits.specs.Settings.{most_activities}
use Rattle.places.specs.Sets.{codes, size}
use Rattle.places.specs.Order.{CodesBefore, ends, lower, same, SetBefore}
use Rattle.places.specs.Candidates.{raised, raised_with_zero, sets}
use Rattle.places.proofs.laws.StrictOrder.{set_irreflexive}
use Rattle.candidate_order_spec.proofs.laws.Doubling.{codes_raised, codes_raised_zero}
use Rattle.candidate_order_spec.proofs.laws.SetList.{below_last, size_positive, Listed, sets_listed}

-- each code one more: the order stays
codes_before_raised : {s t : List ℕ} → CodesBefore s t → CodesBefore (map suc s) (map suc t)
codes_before_raised ends = ends
codes_before_raised (lower h) = lower (suc-le-suc h)
codes_before_raised (same h) = same (codes_before_raised h)

-- a list that begins with 0 comes before one of codes above 0
zero_before_raised : (s t : List ℕ) → 0 < length t → CodesBefore (0 ∷ s) (map suc t)
zero_before_raised s [] some = absurd (omega arith)
zero_before_raised s (b ∷ t) some = lower (zero-lt-suc b)

-- the empty list comes before each other
nothing_before : (t : List ℕ) → 0 < length t → CodesBefore [] t
nothing_before [] some = absurd (omega arith)
nothing_before (b ∷ t) some = ends

-- the same of sets
empty_before : (s : ℕ) → 0 < size s → SetBefore 0 s
unfolding SetBefore codes size
empty_before s some = nothing_before (codes s) some

module _ (s t : ℕ) (s_small : s < 32768) (t_small : t < 32768) where
  raised_before : SetBefore s t → SetBefore (raised s) (raised t)
  unfolding SetBefore
  raised_before h = rw (codes_raised s s_small, codes_raised t t_small) (codes_before_raised h)

  raised_zero_before : SetBefore s t → SetBefore (raised_with_zero s) (raised_with_zero t)
  unfolding SetBefore
  raised_zero_before h = rw (codes_raised_zero s s_small, codes_raised_zero t t_small) (same (codes_before_raised h))

  zero_before : 0 < size t → SetBefore (raised_with_zero s) (raised t)
  unfolding SetBefore size
  zero_before some = rw (codes_raised_zero s s_small, codes_raised t t_small) (zero_before_raised (map suc (codes s)) (codes t) some)

-- the parts of the list for n + 1 codes, made of the lists for n
module _ (n : ℕ) (few : suc n ≤ most_activities) where
  sized : (m s : ℕ) → Listed n m s → 0 < size s
  sized m s l = size_positive n (omega arith) s l.small l.some

  short : (m s : ℕ) → Listed n m s → s < 32768
  short m s l = below_last n s few l.small

  ascending_with_zero : (m : ℕ) → Ordered SetBefore (sets n m) → Ordered SetBefore (map raised_with_zero (sets n m))
  ascending_with_zero m h =
      ordered_map raised_with_zero (ordered_among (λ s t l k. raised_zero_before s t (short m s l) (short m t k)) (sets_listed n m) h)

  ascending_without_zero : (m : ℕ) → Ordered SetBefore (sets n m) → Ordered SetBefore (map raised (sets n m))
  ascending_without_zero m h =
      ordered_map raised (ordered_among (λ s t l k. raised_before s t (short m s l) (short m t k)) (sets_listed n m) h)

  -- a set with code 0 comes before all sets without it, and that of code 0 alone before those that
  -- have more
  zero_first : (m s : ℕ) → s < 32768 → Each (SetBefore (raised_with_zero s)) (map raised (sets n m))
  zero_first m s small =
      each_map raised (each_imply (λ t l. zero_before s t small (short m t l) (sized m t l)) (sets_listed n m))

  alone_first : (m : ℕ) → Each (SetBefore 1) (map raised_with_zero (sets n m))
  alone_first m =
      each_map
      raised_with_zero
      (each_imply (λ s l. raised_zero_before 0 s (omega arith) (short m s l) (empty_before s (sized m s l))) (sets_listed n m))

-- the list is in the stated order
pub sets_ascending : (n m : ℕ) → n ≤ most_activities → Ordered SetBefore (sets n m)
unfolding sets
sets_ascending zero m few = ordered_nil
sets_ascending (suc n) zero few = ordered_nil
sets_ascending (suc n) (suc m) few =
    ordered_cons
    (each_append (alone_first n few m) (zero_first n few (suc m) 0 (omega arith)))
    (ordered_append
    (ascending_with_zero n few m (sets_ascending n m (omega arith)))
    (ascending_without_zero n few (suc m) (sets_ascending n (suc m) (omega arith)))
    (each_map raised_with_zero (each_imply (λ s l. zero_first n few (suc m) s (short n few m s l)) (sets_listed n m))))

-- so it holds each set once
pub sets_distinct : (n m : ℕ) → n ≤ most_activities → Ordered (λ (s t : ℕ). s ≡ t → ⊥) (sets n m)
sets_distinct n m few = ordered_distinct set_irreflexive (sets_ascending n m few)
