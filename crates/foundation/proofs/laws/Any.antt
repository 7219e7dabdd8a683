-- Laws of a test that some element of a list passes.
-- Assumes nothing.
use mathlib.Core.Path.{◌≡◌, refl, sym, ap, ◌∙◌}
use mathlib.Core.Bool.{Bool, true, false, not, ◌&&◌, ◌||◌, or-true, false≢true}
use mathlib.Core.List.{List, [], ◌∷◌, Memᴰ}
use Rattle.std.specs.List.{list_all, list_any}
use Rattle.foundation.proofs.laws.Booleans.{or_true_either}

-- what passes a test passes another that holds wherever the first does
pub any_imply : {A : Type 0} {p q : A → Bool} → ((x : A) → p x ≡ true → q x ≡ true) → (xs : List A) → list_any p xs ≡ true → list_any q xs ≡ true
any_imply h [] e = absurd (false≢true e)
any_imply {p = p} {q = q} h (x ∷ xs) e =
    or_true_either (p x) (list_any p xs) (λ here. rw (h x here)) (λ later. rw (any_imply h xs later) (or-true (q x))) e

module _ {A : Type 0} (p : A → Bool) where
  -- none passes where all fail
  pub not_any : (xs : List A) → not (list_any p xs) ≡ list_all (λ (x : A). not (p x)) xs
  not_any [] = refl
  not_any (x ∷ xs) = go (p x) (not_any xs)
    where
      fail : Bool
      fail = list_all (λ (y : A). not (p y)) xs

      go : (b : Bool) → not (list_any p xs) ≡ fail → not (b || list_any p xs) ≡ (not b && fail)
      go true e = refl
      go false e = e

  -- some element passes exactly if a member does
  pub any_member : (xs : List A) → list_any p xs ≡ true → (x : A) × Memᴰ x xs × (p x ≡ true)
  any_member [] e = absurd (false≢true e)
  any_member (x ∷ xs) e =
      or_true_either
      (p x)
      (list_any p xs)
      (λ here. (x, Memᴰ.head refl, here))
      (λ later. let found = any_member xs later in (found.0, Memᴰ.tail found.1, found.2))
      e

  pub member_any : {x : A} {xs : List A} → Memᴰ x xs → p x ≡ true → list_any p xs ≡ true
  member_any (Memᴰ.head e) passes = rw (ap p (sym e) ∙ passes)
  member_any (Memᴰ.tail {x = y} later) passes = rw (member_any later passes) (or-true (p y))
