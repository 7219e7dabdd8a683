-- The words for lists and buffers, tried on small lists.
-- Assumes nothing.
use Prim.Native.Nat.{ℕ, ◌+◌, ◌*◌}
use mathlib.Core.Path.{◌≡◌, refl}
use mathlib.Core.Bool.{true, false}
use mathlib.Core.List.{[], ◌∷◌}
use lib.Dec.{ltb}
use Rattle.foundation.specs.Lists.{pairwise, sublists, sum, up_to}
use Rattle.std.specs.List.{filter, list_all, list_any, fold}
use Rattle.foundation.specs.Buffers.{overwrite}
use Rattle.foundation.specs.Text.{bytes}

pub record Examples : Type 0 where
  pub counted : up_to 4 ≡ 0 ∷ 1 ∷ 2 ∷ 3 ∷ []
  pub kept : filter (ltb 1) (up_to 4) ≡ 2 ∷ 3 ∷ []
  pub all_below : list_all (λ (n : ℕ). ltb n 4) (up_to 4) ≡ true
  pub not_all_below : list_all (λ (n : ℕ). ltb n 3) (up_to 4) ≡ false
  pub any_above : list_any (ltb 2) (up_to 4) ≡ true
  pub none_above : list_any (ltb 3) (up_to 4) ≡ false
  pub ascending : pairwise ltb (up_to 4) ≡ true
  pub not_ascending : pairwise ltb (1 ∷ 3 ∷ 2 ∷ []) ≡ false
  pub folded : fold (λ (s n : ℕ). 10 * s + n) 0 (1 ∷ 2 ∷ 3 ∷ []) ≡ 123
  pub chosen : sublists (up_to 2) ≡ (0 ∷ 1 ∷ []) ∷ (0 ∷ []) ∷ (1 ∷ []) ∷ [] ∷ []
  pub added : sum (1 ∷ 2 ∷ 3 ∷ []) ≡ 6
  pub front : overwrite {A = ℕ} (7 ∷ 8 ∷ []) (1 ∷ 2 ∷ 3 ∷ []) ≡ 7 ∷ 8 ∷ 3 ∷ []
  pub quoted : bytes "0A\n" ≡ 48 ∷ 65 ∷ 10 ∷ []

pub examples : Examples
examples =
    record {
      counted = refl;
      kept = refl;
      all_below = refl;
      not_all_below = refl;
      any_above = refl;
      none_above = refl;
      ascending = refl;
      not_ascending = refl;
      folded = refl;
      chosen = refl;
      added = refl;
      front = refl;
      quoted = refl;
    }
