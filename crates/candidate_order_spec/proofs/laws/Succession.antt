-- Where a search over the list of sets goes on. The list from a set on is that set and the list
-- from the one after it on; and it is that set, the sets that extend it, and the list from the one
-- past it on, none of which extends it. The set after a given one and the set past it are what the
-- highest code says, and are 0 or such sets again.
-- Assumes nothing.
use Prim.Native.Nat.{ℕ, zero, suc, ◌≤◌}
use native.Mathlib.Omega.{arith}
use mathlib.Core.Path.{◌≡◌, refl, sym, ap, ◌∙◌}
use mathlib.Core.Logic.{◌⊎◌, inl, inr}
use mathlib.Core.Bool.{Bool, true, false, not}
use mathlib.Core.List.Memᴰ
use mathlib.Core.List.{List, [], ◌∷◌, ◌++◌, append-nil, append_assoc, Memᴰ}
use lib.ListN.{drop}
use Rattle.foundation.specs.Lists.{Each}
use Rattle.std.specs.List.{filter}
use Rattle.std.proofs.lemmas.List.Elements.{filter-append}
use Rattle.foundation.proofs.laws.Each.{each_imply, each_front, filter_every, filter_none}
use Rattle.foundation.proofs.laws.Members.{each_member}
use Rattle.limits.specs.Settings.{most_activities}
use Rattle.places.specs.Candidates.{candidate_set, sets, extends}
use Rattle.places.specs.Succession.{from, first_set, set_after, set_past}
use Rattle.candidate_order_spec.proofs.laws.From.{from_ends, from_in_second, from_end}
use Rattle.candidate_order_spec.proofs.laws.NextSet.{past_by, after_by}
use Rattle.candidate_order_spec.proofs.laws.Position.{Position, position}
use Rattle.candidate_order_spec.proofs.laws.SetList.{Listed, sets_listed, set_listed}
use Rattle.candidate_order_spec.proofs.laws.SetOrder.{sets_distinct}

-- from no set on there is nothing, and from the set of code 0 alone on the whole list
pub from_nothing : (n m : ℕ) → from 0 (sets n m) ≡ []
unfolding from
from_nothing n m =
    ap (from 0) (sym (append-nil (sets n m))) ∙ from_in_second 0 [] (each_imply (λ s l e. omega (arith, l.some)) (sets_listed n m))

pub from_first : (n m : ℕ) → 1 ≤ n → 1 ≤ m → from 1 (sets n m) ≡ sets n m
unfolding from sets
from_first zero m some_code some = absurd (omega arith)
from_first (suc n) zero some_code some = absurd (omega arith)
from_first (suc n) (suc m) some_code some = refl

first_member : (n m : ℕ) → 1 ≤ n → 1 ≤ m → Memᴰ 1 (sets n m)
unfolding sets
first_member zero m some_code some = absurd (omega arith)
first_member (suc n) zero some_code some = absurd (omega arith)
first_member (suc n) (suc m) some_code some = Memᴰ.head refl

-- the list for n and m from s on: s, what extends it, and the list from the set past s on, of which
-- nothing extends it
pub record PastFrom (n m s : ℕ) : Type 0 where
  pub extending : List ℕ
  pub split : from s (sets n m) ≡ s ∷ (extending ++ from (set_past s (sets n m)) (sets n m))
  pub extend : Each (λ (t : ℕ). extends s t ≡ true) extending
  pub apart : Each (λ (t : ℕ). extends s t ≡ false) (from (set_past s (sets n m)) (sets n m))

module _ (n m : ℕ) (few : n ≤ most_activities) where
  -- the set of code 0 alone is a candidate's
  pub first_kind : 1 ≤ n → 1 ≤ m → candidate_set n m 1 ≡ true
  first_kind some_code some = (set_listed n m 1 few).0 (first_member n m some_code some)

  -- the list from the first set of its end part on is that part
  resumed : (before rest : List ℕ) → sets n m ≡ before ++ rest → from (first_set rest) (sets n m) ≡ rest
  resumed before rest e =
      rw e
      (from_end
      before
      rest
      (each_front before rest (rw e at (each_imply (λ s l. l.some) (sets_listed n m))))
      (rw e at (sets_distinct n m few)))

  -- and that first set is a candidate's, or 0 where the part is empty
  kind : (before rest : List ℕ) → sets n m ≡ before ++ rest → (first_set rest ≡ 0) ⊎ (candidate_set n m (first_set rest) ≡ true)
  unfolding first_set
  kind before [] e = inl refl
  kind before (s ∷ rest) e = inr ((set_listed n m s few).0 (rw e (Memᴰ.append_right before (Memᴰ.head refl))))

  module _ (s : ℕ) (candidate : candidate_set n m s ≡ true) where
    at : Position n m s
    at = position n m s few ((set_listed n m s few).1 candidate)

    -- such a set is not empty and has only codes below n
    pub candidate_bounds : Listed n m s
    candidate_bounds = each_member (sets_listed n m) ((set_listed n m s few).1 candidate)

    after_first : set_after s (sets n m) ≡ first_set (at.extending ++ at.others)
    unfolding set_after
    after_first = ap (λ (l : List ℕ). first_set (drop 1 l)) at.found

    past_first : set_past s (sets n m) ≡ first_set at.others
    unfolding set_past
    past_first =
        ap (λ (l : List ℕ). first_set (filter passed (drop 1 l))) at.found
        ∙ ap first_set (filter-append passed at.extending at.others ∙ rw (filter_none passed none, filter_every passed all))
      where
        passed : ℕ → Bool
        passed t = not (extends s t)

        none : Each (λ (t : ℕ). passed t ≡ false) at.extending
        none = each_imply (λ t e. ap not e) at.extend

        all : Each (λ (t : ℕ). passed t ≡ true) at.others
        all = each_imply (λ t e. ap not e) at.apart

    -- what stands before either part
    before_rest : (before : List ℕ) × (sets n m ≡ before ++ (at.extending ++ at.others))
    before_rest =
        let (before, ends) = from_ends s (sets n m) in
        (before ++ (s ∷ []), ends ∙ ap (◌++◌ before) at.found ∙ sym (append_assoc before (s ∷ []) (at.extending ++ at.others)))

    before_others : (before : List ℕ) × (sets n m ≡ before ++ at.others)
    before_others =
        let (before, ends) = before_rest in
        (before ++ at.extending, ends ∙ sym (append_assoc before at.extending at.others))

    -- the list from s on goes on with the set after s
    pub after_from : from s (sets n m) ≡ s ∷ from (set_after s (sets n m)) (sets n m)
    after_from =
        let (before, ends) = before_rest in
        at.found ∙ ap (◌∷◌ s) (sym (ap (λ (t : ℕ). from t (sets n m)) after_first ∙ resumed before (at.extending ++ at.others) ends))

    from_past : from (set_past s (sets n m)) (sets n m) ≡ at.others
    from_past =
        let (before, ends) = before_others in
        ap (λ (t : ℕ). from t (sets n m)) past_first ∙ resumed before at.others ends

    -- what extends s stands directly after it
    pub past_from : PastFrom n m s
    past_from =
        record {
          extending = at.extending;
          split = at.found ∙ rw from_past;
          extend = at.extend;
          apart = rw from_past at.apart;
        }

    -- where the search goes on, if it does, is a candidate's set again
    pub after_kind : (set_after s (sets n m) ≡ 0) ⊎ (candidate_set n m (set_after s (sets n m)) ≡ true)
    after_kind = let (before, ends) = before_rest in rw after_first (kind before (at.extending ++ at.others) ends)

    pub past_kind : (set_past s (sets n m) ≡ 0) ⊎ (candidate_set n m (set_past s (sets n m)) ≡ true)
    past_kind = let (before, ends) = before_others in rw past_first (kind before at.others ends)

    -- the set after s and the set past it, by the highest code
    pub after_by_lem : set_after s (sets n m) ≡ after_by n m s
    after_by_lem = after_first ∙ at.after

    pub past_by_lem : set_past s (sets n m) ≡ past_by n s
    past_by_lem = past_first ∙ at.past
