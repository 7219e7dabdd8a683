-- Where a set stands in the list of sets: directly after it those that extend it, then others, none
-- of which extends it; and the first of either is what the highest code says. The list is made of
-- those for one code less, with each code one more, and so are these parts of it.
-- Assumes nothing.
use Prim.Native.Nat.{ℕ, zero, suc, ◌*◌, ◌^◌, ◌≤◌, ◌<◌}
use native.Mathlib.Omega.{arith}
use mathlib.Core.Path.{◌≡◌, refl, sym, ap, subst, ◌∙◌}
use mathlib.Core.Logic.{⊎_elim}
use mathlib.Core.Bool.{Bool, true, false}
use mathlib.Core.List.Memᴰ
use mathlib.Core.List.{List, [], ◌∷◌, ◌++◌, map, map-append, append_assoc, Memᴰ}
use Rattle.foundation.specs.Lists.{Each, each_cons}
use Rattle.foundation.proofs.laws.Lists.{each_tail}
use Rattle.foundation.proofs.laws.Each.{each_imply, each_always, each_append, each_both, each_front, each_back, each_map}
use Rattle.foundation.proofs.laws.Members.{each_member}
use Rattle.limits.specs.Settings.{most_activities}
use Rattle.places.specs.Candidates.{raised, raised_with_zero, sets, extends}
use Rattle.places.specs.Succession.{from, first_set}
use Rattle.candidate_order_spec.proofs.laws.Extending.{extends_raised, extends_raised_zero, extends_mixed, extends_first}
use Rattle.candidate_order_spec.proofs.laws.From.{from_later, each_from, from_in_first, from_in_second, from_map}
use Rattle.candidate_order_spec.proofs.laws.NextSet.{past_by, after_by, raised_or_one, raised_some, past_last, past_one, after_last, after_one, after_both, past_raised, past_raised_zero, after_raised, after_raised_zero}
use Rattle.candidate_order_spec.proofs.laws.SetList.{below_last, size_positive, Listed, sets_listed}

-- where s stands in the list for n and m: before the sets that extend it, and those before all
-- others that come later
pub record Position (n m s : ℕ) : Type 0 where
  pub extending : List ℕ
  pub others : List ℕ
  pub found : from s (sets n m) ≡ s ∷ (extending ++ others)
  pub extend : Each (λ (t : ℕ). extends s t ≡ true) extending
  pub apart : Each (λ (t : ℕ). extends s t ≡ false) others
  pub past : first_set others ≡ past_by n s
  pub after : first_set (extending ++ others) ≡ after_by n m s

-- the first of the raised sets
first_raised : (ts : List ℕ) → first_set (map raised ts) ≡ 2 * first_set ts
unfolding first_set
first_raised [] = refl
first_raised (t ∷ ts) = refl

first_raised_zero : (ss ts : List ℕ) → Each (λ (s : ℕ). 0 < s) ss → first_set ts ≡ 1
    → first_set (map raised_with_zero ss ++ map raised ts) ≡ raised_or_one (first_set ss)
unfolding first_set raised_or_one
first_raised_zero [] ts some one = first_raised ts ∙ ap (◌*◌ 2) one
first_raised_zero (s ∷ ss) ts (each_cons here later) one = sym (raised_some s here)

first_of_sets : (n m : ℕ) → 0 < n → 0 < m → first_set (sets n m) ≡ 1
unfolding first_set sets
first_of_sets zero m h k = absurd (omega arith)
first_of_sets (suc n) zero h k = absurd (omega arith)
first_of_sets (suc n) (suc m) h k = refl

-- the first sets past and after the set of code 0 alone
past_alone : (n m : ℕ) → first_set (map raised (sets n (suc m))) ≡ past_by (suc n) 1
unfolding first_set sets
past_alone zero m = sym past_last
past_alone (suc n) m = sym (past_one n)

after_alone : (n m : ℕ) → first_set (map raised_with_zero (sets n m) ++ map raised (sets n (suc m))) ≡ after_by (suc n) (suc m) 1
unfolding first_set sets
after_alone zero m = sym (after_last (suc m))
after_alone (suc n) zero = sym (after_one n)
after_alone (suc n) (suc m) = sym (after_both n m)

-- where there is a set there is a code
some_codes : (n s : ℕ) → 0 < s → s < 2 ^ n → 0 < n
some_codes zero s some small = absurd (omega arith)
some_codes (suc n) s some small = omega arith

module _ (n : ℕ) (few : suc n ≤ most_activities) where
  short : (m s : ℕ) → Listed n m s → s < 32768
  short m s l = below_last n s few l.small

  -- the set of code 0 alone stands at the front
  alone : (m : ℕ) → Position (suc n) (suc m) 1
  unfolding sets from
  alone m =
      record {
        extending = map raised_with_zero (sets n m);
        others = map raised (sets n (suc m));
        found = refl;
        extend =
            each_map
            raised_with_zero
            (each_imply (λ t l. extends_first t (short m t l) (size_positive n (omega arith) t l.small l.some)) (sets_listed n m));
        apart = each_map raised (each_imply (λ t l. extends_mixed 0 t (omega arith) (short (suc m) t l)) (sets_listed n (suc m)));
        past = past_alone n m;
        after = after_alone n m;
      }

  -- the parts of the list after t, with each code one more: those of t with code 0 besides
  module _ (m t : ℕ) (l : Listed n m t) (p : Position n m t) where
    rest_listed : Each (Listed n m) (p.extending ++ p.others)
    rest_listed = each_tail (rw p.found at (each_from t (sets_listed n m)))

    extending_listed : Each (Listed n m) p.extending
    extending_listed = each_front p.extending p.others rest_listed

    others_listed : Each (Listed n m) p.others
    others_listed = each_back p.extending p.others rest_listed

    extending_raised : {b : Bool} {ts : List ℕ} → Each (Listed n m) ts → Each (λ (u : ℕ). extends t u ≡ b) ts
        → Each (λ (u : ℕ). extends (raised t) u ≡ b) (map raised ts)
    extending_raised listed e =
        each_map raised (each_imply (λ u both. extends_raised t u (short m t l) (short m u both.0) ∙ both.1) (each_both listed e))

    extending_raised_zero : {b : Bool} {ts : List ℕ} → Each (Listed n m) ts → Each (λ (u : ℕ). extends t u ≡ b) ts
        → Each (λ (u : ℕ). extends (raised_with_zero t) u ≡ b) (map raised_with_zero ts)
    extending_raised_zero listed e =
        each_map
        raised_with_zero
        (each_imply (λ u both. extends_raised_zero t u (short m t l) (short m u both.0) ∙ both.1) (each_both listed e))

    -- in the list for one code more those without code 0 come later
    first_later : {ts : List ℕ} → Each (Listed n m) ts
        → first_set (map raised_with_zero ts ++ map raised (sets n (suc m))) ≡ raised_or_one (first_set ts)
    first_later {ts} listed =
        first_raised_zero
        ts
        (sets n (suc m))
        (each_imply (λ u k. k.some) listed)
        (first_of_sets n (suc m) (some_codes n t l.some l.small) (omega arith))

    parts_raised_zero :
        map raised_with_zero (p.extending ++ p.others) ++ map raised (sets n (suc m))
        ≡ map raised_with_zero p.extending ++ (map raised_with_zero p.others ++ map raised (sets n (suc m)))
    parts_raised_zero = simp (map-append, append_assoc)

    found_with_zero :
        from (raised_with_zero t) (sets (suc n) (suc m))
        ≡ raised_with_zero t ∷ (map raised_with_zero p.extending ++ (map raised_with_zero p.others ++ map raised (sets n (suc m))))
    unfolding sets
    found_with_zero =
        from_later (raised_with_zero t) 1 _ (λ e. omega arith)
        ∙ from_in_first
        (raised_with_zero t)
        (map raised_with_zero (sets n m))
        (map raised (sets n (suc m)))
        (map raised_with_zero (p.extending ++ p.others))
        (from_map raised_with_zero (λ s u e. omega arith) t (sets n m) ∙ ap (map raised_with_zero) p.found)
        ∙ ap (◌∷◌ (raised_with_zero t)) parts_raised_zero

    with_zero : Position (suc n) (suc m) (raised_with_zero t)
    with_zero =
        record {
          extending = map raised_with_zero p.extending;
          others = map raised_with_zero p.others ++ map raised (sets n (suc m));
          found = found_with_zero;
          extend = extending_raised_zero extending_listed p.extend;
          apart =
              each_append
              (extending_raised_zero others_listed p.apart)
              (each_map raised (each_imply (λ u k. extends_mixed t u (short m t l) (short (suc m) u k)) (sets_listed n (suc m))));
          past = first_later others_listed ∙ ap raised_or_one p.past ∙ sym (past_raised_zero t l.some (short m t l) n);
          after =
              ap first_set (sym parts_raised_zero) ∙ first_later rest_listed ∙ ap raised_or_one p.after
              ∙ sym (after_raised_zero t l.some (short m t l) n m);
        }

  -- and those of a set without code 0
  module _ (m t : ℕ) (l : Listed n (suc m) t) (p : Position n (suc m) t) where
    found_without_zero : from (raised t) (sets (suc n) (suc m)) ≡ raised t ∷ (map raised p.extending ++ map raised p.others)
    unfolding sets
    found_without_zero =
        from_later (raised t) 1 _ (λ e. omega arith)
        ∙ from_in_second (raised t) (map raised (sets n (suc m))) (each_map raised_with_zero (each_always (λ u e. omega arith) (sets n m)))
        ∙ from_map raised (λ s u e. omega arith) t (sets n (suc m))
        ∙ ap (map raised) p.found
        ∙ simp map-append

    without_zero : Position (suc n) (suc m) (raised t)
    without_zero =
        record {
          extending = map raised p.extending;
          others = map raised p.others;
          found = found_without_zero;
          extend = extending_raised (suc m) t l p (extending_listed (suc m) t l p) p.extend;
          apart = extending_raised (suc m) t l p (others_listed (suc m) t l p) p.apart;
          past = first_raised p.others ∙ ap (◌*◌ 2) p.past ∙ sym (past_raised t l.some (short (suc m) t l) n);
          after =
              ap first_set (sym (map-append raised p.extending p.others)) ∙ first_raised (p.extending ++ p.others) ∙ ap (◌*◌ 2) p.after
              ∙ sym (after_raised t l.some (short (suc m) t l) n (suc m));
        }

-- the position of every set of the list
pub position : (n m s : ℕ) → n ≤ most_activities → Memᴰ s (sets n m) → Position n m s
unfolding sets
position zero m s few at = absurd (Memᴰ.not-nil at)
position (suc n) zero s few at = absurd (Memᴰ.not-nil at)
position (suc n) (suc m) s few at =
    ⊎_elim
    (λ e. subst (Position (suc n) (suc m)) (sym e) (alone n few m))
    (λ later.
    ⊎_elim
    (λ at_zero.
    let (t, there, e) = Memᴰ.of_map raised_with_zero (sets n m) at_zero in
    subst (Position (suc n) (suc m)) e (with_zero n few m t (each_member (sets_listed n m) there) (position n m t (omega arith) there)))
    (λ at_other.
    let (t, there, e) = Memᴰ.of_map raised (sets n (suc m)) at_other in
    subst (Position (suc n) (suc m)) e (without_zero n few m t (each_member (sets_listed n (suc m)) there) (position n (suc m) t (omega arith) there)))
    (Memᴰ.append_cases (map raised_with_zero (sets n m)) later))
    (Memᴰ.cases_cons at)
