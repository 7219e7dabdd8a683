-- A set of codes below 15 with each code one more is the set doubled, and with code 0 besides it is
-- one more than that: half of either is the set itself, so its code a + 1 is the set's code a, and
-- whether it is odd says whether it has code 0.
-- Assumes nothing.
use Prim.Native.Nat.{ℕ, suc, ◌+◌, ◌*◌, ◌^◌, ◌<◌}
use native.Mathlib.Omega.{arith}
use native.Mathlib.Nat.{div-eq_of_lt}
use mathlib.Core.Path.{◌≡◌, sym, ap, ◌∙◌}
use mathlib.Core.Bool.{cond}
use mathlib.Core.List.{List, [], ◌∷◌, map, append-nil}
use lib.Dec.{eqb}
use lib.ListN.{length, length-map}
use Rattle.foundation.specs.Lists.{up_to}
use Rattle.std.specs.List.{filter}
use Rattle.std.proofs.lemmas.List.Elements.{filter-append}
use Rattle.foundation.proofs.laws.Lists.{filter_of_map, up_to_raised}
use Rattle.places.specs.Sets.{has, member, codes, size}
use Rattle.places.proofs.laws.SetBits.{has_half}

-- the codes of the raised sets: those of the set, each one more, and code 0 in the second alone
module _ (s : ℕ) where
  pub has_raised : (a : ℕ) → has (2 * s) (suc a) ≡ has s a
  has_raised a = has_half (2 * s) a ∙ ap (λ (h : ℕ). has h a) (omega arith)

  pub has_raised_zero : (a : ℕ) → has (2 * s + 1) (suc a) ≡ has s a
  has_raised_zero a = has_half (2 * s + 1) a ∙ ap (λ (h : ℕ). has h a) (omega arith)

  pub raised_without_zero : has (2 * s) 0 ≡ 0
  raised_without_zero = omega arith

  pub raised_with_zero : has (2 * s + 1) 0 ≡ 1
  raised_with_zero = omega arith

-- a set below 2 to the power n has no code n
codes_below : (n s : ℕ) → s < 2 ^ n → filter (member s) (up_to (suc n)) ≡ filter (member s) (up_to n)
codes_below n s small = filter-append (member s) (up_to n) (n ∷ []) ∙ rw (div-eq_of_lt small) (append-nil (filter (member s) (up_to n)))

-- the codes of a set t whose codes above 0 are those of s, each one more
codes_shifted : (s t : ℕ) → ((a : ℕ) → has t (suc a) ≡ has s a) → s < 32768
    → codes t ≡ cond (member t 0) (0 ∷ map suc (codes s)) (map suc (codes s))
unfolding codes
codes_shifted s t shift small = ap (filter (member t)) (up_to_raised 15) ∙ ap (λ (l : List ℕ). cond (member t 0) (0 ∷ l) l) above
  where
    above : filter (member t) (map suc (up_to 15)) ≡ map suc (filter (member s) (up_to 16))
    above =
        filter_of_map (member t) (member s) suc (λ a. ap (λ (h : ℕ). eqb h 1) (shift a)) (up_to 15) ∙ ap (map suc) (sym (codes_below 15 s small))

-- the codes of the raised sets as lists, and how many they are
module _ (s : ℕ) (small : s < 32768) where
  pub codes_raised : codes (2 * s) ≡ map suc (codes s)
  codes_raised = codes_shifted s (2 * s) (has_raised s) small ∙ rw (raised_without_zero s)

  pub codes_raised_zero : codes (2 * s + 1) ≡ 0 ∷ map suc (codes s)
  codes_raised_zero = codes_shifted s (2 * s + 1) (has_raised_zero s) small ∙ rw (raised_with_zero s)

  pub size_raised : size (2 * s) ≡ size s
  unfolding size
  size_raised = ap length codes_raised ∙ length-map (codes s) suc

  pub size_raised_zero : size (2 * s + 1) ≡ suc (size s)
  unfolding size
  size_raised_zero = ap length codes_raised_zero ∙ ap suc (length-map (codes s) suc)
