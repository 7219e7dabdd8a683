-- The position of the first element that passes a test: it is found where one passes and none
-- before it does, and none is found exactly where none passes.
-- Assumes nothing.
use Rattle.std.specs.Prelude.{None, Some}
use Prim.Native.Nat.{ℕ, ◌≤◌, ◌<◌}
use native.Mathlib.Omega.{arith}
use mathlib.Core.Path.{◌≡◌}
use mathlib.Core.Bool.{Bool, true, false}
use mathlib.Core.List.{List}
use lib.ListN.{length, get_or}
use Rattle.std.specs.List.{position, position_or_len}
use Rattle.std.proofs.lemmas.Grind.{common_steps}
use Rattle.std.proofs.lemmas.List.Sums.{position_or_len_is, fails_before_first}
use Rattle.foundation.specs.Lists.{Each}
use Rattle.foundation.proofs.laws.Each.{each_at, each_placed}

module _ {A : Type 0} (test : A → Bool) (xs : List A) (d : A) where
  pub first_found : (k : ℕ) → k < length xs → test (get_or xs k d) ≡ true → ((j : ℕ) → j < k → test (get_or xs j d) ≡ false)
      → position test xs ≡ Some k
  first_found k less passes before =
      let at : position_or_len test xs ≡ k = position_or_len_is test xs k d (omega arith) before (λ l. passes) in
      grind (arith, at)

  pub none_found : Each (λ (x : A). test x ≡ false) xs → position test xs ≡ None
  none_found fails =
      let at : position_or_len test xs ≡ length xs
      = position_or_len_is test xs (length xs) d (omega arith) (λ j less. each_at j d fails less) (λ l. absurd (omega (arith, l))) in
      grind (arith, at)

  pub none_passes : position test xs ≡ None → Each (λ (x : A). test x ≡ false) xs
  none_passes e =
      let past : length xs ≤ position_or_len test xs = grind (arith, common_steps) in
      each_placed d xs (λ j less. fails_before_first test xs j d (omega (arith, less, past)))
