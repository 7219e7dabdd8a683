-- The ordered list of sets holds exactly the sets that a candidate may have, and fewer than 2 to
-- the power n of them. A set is its half with each code one more, with or without code 0, and the
-- list is made so from the lists for one code less.
-- Assumes nothing.
use Prim.Native.Nat.{ℕ, zero, suc, ◌/◌, ◌%◌, ◌^◌, ◌<◌, ◌≤◌}
use native.Mathlib.Omega.{arith}
use mathlib.Core.Path.{◌≡◌, subst}
use mathlib.Core.Logic.{◌↔◌}
use mathlib.Core.Bool.{true, not, ◌&&◌, and-eq-true_iff}
use mathlib.Core.List.Memᴰ
use mathlib.Core.List.{Memᴰ, map}
use lib.Dec.{eqb, ltb, leb}
use lib.Pow.{pow_pos, pow_mono}
use lib.ListN.{length, length-append, length-map}
use borrow.Author.Tests.{lt-ltb, ltb-true, le-leb, leb-true, eqb-true, eqb-false, ne_eqb, not-true}
use Rattle.foundation.specs.Lists.{Each, each_nil, each_cons}
use Rattle.foundation.proofs.laws.Booleans.{by_test}
use Rattle.foundation.proofs.laws.Each.{each_imply, each_append, each_map}
use Rattle.foundation.proofs.laws.Members.{each_member}
use Rattle.limits.specs.Settings.{most_activities}
use Rattle.places.specs.Sets.{codes, size}
use Rattle.places.specs.Places.{below}
use Rattle.places.specs.Candidates.{candidate_set, raised, raised_with_zero, sets}
use Rattle.candidate_order_spec.proofs.laws.Doubling.{size_raised, size_raised_zero}

-- a set is its half raised, without code 0 or with it
by_half : (P : ℕ → Type 0) → ((h : ℕ) → P (raised h)) → ((h : ℕ) → P (raised_with_zero h)) → (s : ℕ) → P s
by_half P without_zero with_zero s =
    by_test
    (eqb (s % 2) 0)
    (λ even. subst P (omega (arith, eqb-true (s % 2) 0 even)) (without_zero (s / 2)))
    (λ odd. subst P (omega (arith, eqb-false (s % 2) 0 odd)) (with_zero (s / 2)))

-- a set of codes below n, where n is below 16, is one of codes below 15
pub below_last : (n s : ℕ) → suc n ≤ most_activities → s < 2 ^ n → s < 32768
below_last n s few small = omega (arith, pow_mono {i = n} {j = 15} (omega arith))

-- a set of some codes has a size above 0
pub size_positive : (n : ℕ) → n ≤ most_activities → (s : ℕ) → s < 2 ^ n → 0 < s → 0 < size s
size_positive zero few s small some = absurd (omega arith)
size_positive (suc n) few s small some =
    by_half
    (λ (s : ℕ). s < 2 ^ suc n → 0 < s → 0 < size s)
    (λ h small some. omega (arith, size_raised h (below_last n h few (omega arith)), size_positive n (omega arith) h (omega arith) (omega arith)))
    (λ h small some. omega (arith, size_raised_zero h (below_last n h few (omega arith))))
    s
    small
    some

-- what each set of the list is: not empty, with no code of n or more, and with at most m codes
pub record Listed (n m s : ℕ) : Type 0 where
  pub some : 0 < s
  pub small : s < 2 ^ n
  pub sized : n ≤ most_activities → size s ≤ m

-- the set of code 0 alone is so, and so are the sets raised
module _ (n m : ℕ) where
  alone : Listed (suc n) (suc m) 1
  unfolding size codes
  alone = record { some = omega arith; small = omega (arith, pow_pos n); sized = λ few. omega arith }

  with_zero : (s : ℕ) → Listed n m s → Listed (suc n) (suc m) (raised_with_zero s)
  with_zero s l =
      record {
        some = omega arith;
        small = omega arith;
        sized = λ few. omega (arith, size_raised_zero s (below_last n s few l.small), l.sized (omega arith));
      }

  without_zero : (s : ℕ) → Listed n (suc m) s → Listed (suc n) (suc m) (raised s)
  without_zero s l =
      record {
        some = omega arith;
        small = omega arith;
        sized = λ few. omega (arith, size_raised s (below_last n s few l.small), l.sized (omega arith));
      }

-- each set of the list is so
pub sets_listed : (n m : ℕ) → Each (Listed n m) (sets n m)
unfolding sets
sets_listed zero m = each_nil
sets_listed (suc n) zero = each_nil
sets_listed (suc n) (suc m) =
    each_cons
    (alone n m)
    (each_append
    (each_map raised_with_zero (each_imply (with_zero n m) (sets_listed n m)))
    (each_map raised (each_imply (without_zero n m) (sets_listed n (suc m)))))

-- the half of such a set is so too, where it is not empty
module _ (n m : ℕ) (few : suc n ≤ most_activities) (h : ℕ) where
  half_with_zero : 0 < h → Listed (suc n) (suc m) (raised_with_zero h) → Listed n m h
  half_with_zero more l =
      record {
        some = more;
        small = omega arith;
        sized = λ _. omega (arith, size_raised_zero h (below_last n h few (omega arith)), l.sized few);
      }

  half_without_zero : Listed (suc n) (suc m) (raised h) → Listed n (suc m) h
  half_without_zero l =
      record {
        some = omega arith;
        small = omega arith;
        sized = λ _. omega (arith, size_raised h (below_last n h few (omega arith)), l.sized few);
      }

-- a set is in the list where its half is in the list for one code less; or where that is empty, and
-- the set has code 0
module _ (n m h : ℕ) where
  in_with_zero : (0 < h → Memᴰ h (sets n m)) → Memᴰ (raised_with_zero h) (sets (suc n) (suc m))
  unfolding sets
  in_with_zero at =
      by_test
      (eqb h 0)
      (λ none. Memᴰ.head (omega (arith, eqb-true h 0 none)))
      (λ more.
      Memᴰ.tail (Memᴰ.append_left (map raised (sets n (suc m))) (Memᴰ.map raised_with_zero (at (omega (arith, eqb-false h 0 more))))))

  in_without_zero : Memᴰ h (sets n (suc m)) → Memᴰ (raised h) (sets (suc n) (suc m))
  unfolding sets
  in_without_zero at = Memᴰ.tail (Memᴰ.append_right (map raised_with_zero (sets n m)) (Memᴰ.map raised at))

-- every such set is in the list
is_listed : (n m : ℕ) → n ≤ most_activities → (s : ℕ) → Listed n m s → Memᴰ s (sets n m)
is_listed zero m few s l = absurd (omega arith)
is_listed (suc n) zero few s l = absurd (omega (arith, l.sized few, size_positive (suc n) few s l.small l.some))
is_listed (suc n) (suc m) few s l =
    by_half
    (λ (s : ℕ). Listed (suc n) (suc m) s → Memᴰ s (sets (suc n) (suc m)))
    (λ h l. in_without_zero n m h (is_listed n (suc m) (omega arith) h (half_without_zero n m few h l)))
    (λ h l. in_with_zero n m h (λ more. is_listed n m (omega arith) h (half_with_zero n m few h more l)))
    s
    l

-- such a set is one that a candidate may have, and the other way round
candidate_listed : (n m s : ℕ) → n ≤ most_activities → candidate_set n m s ≡ true → Listed n m s
unfolding candidate_set below
candidate_listed n m s few e =
    let all = (and-eq-true_iff (not (eqb s 0) && ltb s (2 ^ n)) (leb (size s) m)).0 e in
    let both = (and-eq-true_iff (not (eqb s 0)) (ltb s (2 ^ n))).0 all.0 in
    record {
      some = omega (arith, eqb-false s 0 (not-true (eqb s 0) both.0));
      small = ltb-true s (2 ^ n) both.1;
      sized = λ _. leb-true (size s) m all.1;
    }

listed_candidate : (n m s : ℕ) → n ≤ most_activities → Listed n m s → candidate_set n m s ≡ true
unfolding candidate_set below
listed_candidate n m s few l = rw (ne_eqb s 0 (omega arith), lt-ltb s (2 ^ n) l.small, le-leb (size s) m (l.sized few))

-- the list holds exactly the sets that a candidate may have
pub set_listed : (n m s : ℕ) → n ≤ most_activities → Memᴰ s (sets n m) ↔ (candidate_set n m s ≡ true)
set_listed n m s few = (
  λ at. listed_candidate n m s few (each_member (sets_listed n m) at),
  λ e. is_listed n m few s (candidate_listed n m s few e),
)

-- the list is shorter than there are sets of codes below n, the empty one among them
pub fewer_sets : (n m : ℕ) → length (sets n m) < 2 ^ n
unfolding sets
fewer_sets zero m = omega arith
fewer_sets (suc n) zero = omega (arith, pow_pos n)
fewer_sets (suc n) (suc m) =
    simp (length-append, length-map) (omega (arith, fewer_sets n m, fewer_sets n (suc m)))
