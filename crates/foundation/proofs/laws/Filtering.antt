-- Keeping twice is keeping what passes both tests; a test that holds wherever another does keeps no
-- fewer elements; and tests that agree keep the same.
-- Assumes nothing.
use Prim.Native.Nat.{◌≤◌}
use native.Mathlib.Nat.{le_refl}
use native.Mathlib.Omega.{arith}
use mathlib.Core.Path.{◌≡◌, refl, ap, ap₂, ◌∙◌}
use mathlib.Core.Bool.{Bool, true, false, cond, ◌&&◌}
use mathlib.Core.List.{List, [], ◌∷◌, map}
use lib.ListN.{length}
use Rattle.foundation.specs.Lists.{Each, each_nil, each_cons}
use Rattle.std.specs.List.{filter}
use Rattle.foundation.proofs.laws.Booleans.{by_test}

module _ {A : Type 0} (p q : A → Bool) where
  pub filter_twice : (xs : List A) → filter p (filter q xs) ≡ filter (λ (x : A). q x && p x) xs
  filter_twice [] = refl
  filter_twice (x ∷ xs) = go (q x) (filter_twice xs)
    where
      both : List A
      both = filter (λ (y : A). q y && p y) xs

      go : (b : Bool) → filter p (filter q xs) ≡ both
          → filter p (cond b (x ∷ filter q xs) (filter q xs)) ≡ cond (b && p x) (x ∷ both) both
      go true e = ap (λ (l : List A). cond (p x) (x ∷ l) l) e
      go false e = e

  pub filter_fewer : {xs : List A} → Each (λ (x : A). p x ≡ true → q x ≡ true) xs → length (filter p xs) ≤ length (filter q xs)
  filter_fewer each_nil = le_refl 0
  filter_fewer (each_cons {x = x} {xs = xs} here later) = go (p x) (q x) here (filter_fewer later)
    where
      go : (a b : Bool) → (a ≡ true → b ≡ true) → length (filter p xs) ≤ length (filter q xs)
          → length (cond a (x ∷ filter p xs) (filter p xs)) ≤ length (cond b (x ∷ filter q xs) (filter q xs))
      go true b h e = rw (h refl) (omega arith)
      go false true h e = omega arith
      go false false h e = e

-- tests that agree, and functions that agree on what passes, give the same list
pub kept_same : {A B : Type 0} (p q : A → Bool) (f g : A → B) {xs : List A}
    → Each (λ (x : A). (p x ≡ q x) × (q x ≡ true → f x ≡ g x)) xs → map f (filter p xs) ≡ map g (filter q xs)
kept_same p q f g each_nil = refl
kept_same p q f g (each_cons {x = x} {xs = xs} here later) =
    by_test
    (q x)
    (λ t. rw (here.0 ∙ t, t) (ap₂ ◌∷◌ (here.1 t) (kept_same p q f g later)))
    (λ e. rw (here.0 ∙ e, e) (kept_same p q f g later))
