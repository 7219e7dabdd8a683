-- Laws of what is in a list: what holds of each element holds of a member, and what holds of every
-- member holds of each element; what stands at an index is a member; a member of the kept elements
-- is a member that passes; a member of lists in turn is a member of one of them; members of the
-- images are images of members.
-- Assumes nothing.
use Prim.Native.Nat.{ℕ, zero, suc, ◌<◌}
use native.Mathlib.Omega.{arith}
use mathlib.Core.Path.{◌≡◌, refl, sym, ap, ap₂, subst, ◌∙◌}
use mathlib.Core.Logic.{◌↔◌, ⊎_elim}
use mathlib.Core.Bool.{Bool, true, false, cond}
use mathlib.Core.List.Memᴰ
use mathlib.Core.List.{List, [], ◌∷◌, map, flat_map, Memᴰ}
use lib.ListN.{length, get_or}
use Rattle.foundation.specs.Lists.{Each, each_nil, each_cons}
use Rattle.std.specs.List.{filter}

-- what holds of each element holds of a member
pub each_member : {A : Type 0} {P : A → Type 0} {x : A} {xs : List A} → Each P xs → Memᴰ x xs → P x
each_member each_nil m = absurd (Memᴰ.not-nil m)
each_member {P = P} (each_cons here later) m =
    ⊎_elim (λ e. subst P (sym e) here) (λ after. each_member later after) (Memᴰ.cases_cons m)

-- what stands at an index is a member
pub member_at : {A : Type 0} (xs : List A) (at : ℕ) (d : A) → at < length xs → Memᴰ (get_or xs at d) xs
member_at [] at d l = absurd (omega arith)
member_at (x ∷ xs) zero d l = Memᴰ.head refl
member_at (x ∷ xs) (suc at) d l = Memᴰ.tail (member_at xs at d (omega arith))

-- what holds of every member holds of each element
pub members_each : {A : Type 0} {P : A → Type 0} (xs : List A) → ((x : A) → Memᴰ x xs → P x) → Each P xs
members_each [] h = each_nil
members_each (x ∷ xs) h = each_cons (h x (Memᴰ.head refl)) (members_each xs λ y later. h y (Memᴰ.tail later))

-- the members of the elements that pass a test are the members that pass it
module _ {A : Type 0} (p : A → Bool) {x : A} where
  kept_member : (xs : List A) → Memᴰ x (filter p xs) → Memᴰ x xs × (p x ≡ true)
  kept_member [] m = absurd (Memᴰ.not-nil m)
  kept_member (y ∷ ys) m = go (p y) refl m (λ later. let both = kept_member ys later in (Memᴰ.tail both.0, both.1))
    where
      go : (b : Bool) → p y ≡ b → Memᴰ x (cond b (y ∷ filter p ys) (filter p ys))
          → (Memᴰ x (filter p ys) → Memᴰ x (y ∷ ys) × (p x ≡ true)) → Memᴰ x (y ∷ ys) × (p x ≡ true)
      go true e m rest = ⊎_elim (λ here. (Memᴰ.head here, ap p here ∙ e)) rest (Memᴰ.cases_cons m)
      go false e m rest = rest m

  member_kept : {xs : List A} → p x ≡ true → Memᴰ x xs → Memᴰ x (filter p xs)
  member_kept passes (Memᴰ.head {x = y} {xs = ys} e) = rw (ap p (sym e) ∙ passes) (Memᴰ.head e)
  member_kept passes (Memᴰ.tail {x = y} {xs = ys} m) = go (p y) (member_kept passes m)
    where
      go : (b : Bool) → Memᴰ x (filter p ys) → Memᴰ x (cond b (y ∷ filter p ys) (filter p ys))
      go true after = Memᴰ.tail after
      go false after = after

  pub member_filter : (xs : List A) → Memᴰ x (filter p xs) ↔ (Memᴰ x xs × (p x ≡ true))
  member_filter xs = (kept_member xs, λ both. member_kept both.1 both.0)

-- the members of lists in turn, one for each element of a list
module _ {A B : Type 0} (f : A → List B) {y : B} where
  split_member : (xs : List A) → Memᴰ y (flat_map f xs) → (x : A) × Memᴰ x xs × Memᴰ y (f x)
  unfolding flat_map
  split_member [] m = absurd (Memᴰ.not-nil m)
  split_member (x ∷ xs) m =
      ⊎_elim
      (λ here. (x, Memᴰ.head refl, here))
      (λ later. let found = split_member xs later in (found.0, Memᴰ.tail found.1, found.2))
      (Memᴰ.append_cases (f x) m)

  member_split : {x : A} {xs : List A} → Memᴰ x xs → Memᴰ y (f x) → Memᴰ y (flat_map f xs)
  unfolding flat_map
  member_split (Memᴰ.head {xs = xs} e) m = Memᴰ.append_left (flat_map f xs) (subst (λ (z : A). Memᴰ y (f z)) e m)
  member_split (Memᴰ.tail {x = x} later) m = Memᴰ.append_right (f x) (member_split later m)

  pub member_flat_map : (xs : List A) → Memᴰ y (flat_map f xs) ↔ ((x : A) × Memᴰ x xs × Memᴰ y (f x))
  member_flat_map xs = (split_member xs, λ found. member_split found.1 found.2)

-- elements that are each an image of a member are the images of members
pub each_of_map : {A B : Type 0} (f : A → B) (xs : List A) {ys : List B} → Each (λ (y : B). Memᴰ y (map f xs)) ys
    → (s : List A) × Each (λ (x : A). Memᴰ x xs) s × (map f s ≡ ys)
each_of_map f xs each_nil = ([], each_nil, refl)
each_of_map f xs (each_cons here later) =
    let first = Memᴰ.of_map f xs here in
    let rest = each_of_map f xs later in
    (first.0 ∷ rest.0, each_cons first.1 rest.1, ap₂ ◌∷◌ first.2 rest.2)
