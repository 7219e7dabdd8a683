-- One set extends another exactly if it does so with each code one more, and with code 0 besides in
-- both; what has code 0 is extended by no set without it. The codes of such sets are those of the
-- sets themselves, each one more, and 0 is below all of them.
-- Assumes nothing.
use Prim.Native.Nat.{ℕ, suc, ◌+◌, ◌*◌, ◌^◌, ◌<◌}
use native.Mathlib.Omega.{arith}
use native.Mathlib.Nat.{zero-div}
use mathlib.Core.Path.{◌≡◌, refl, ap, ◌∙◌}
use mathlib.Core.Bool.{Bool, true, false, not}
use mathlib.Core.List.{List, [], ◌∷◌, map}
use lib.Dec.{eqb, ltb, leb-suc-suc}
use lib.ListN.{length-map}
use borrow.Author.Tests.{lt-ltb}
use Rattle.std.specs.List.{filter, list_all}
use Rattle.foundation.proofs.laws.Lists.{filter_of_map, all_map}
use Rattle.foundation.proofs.laws.Each.{each_always, each_all, filter_every}
use Rattle.places.specs.Sets.{member, codes, size, within}
use Rattle.places.specs.Candidates.{added, extends}
use Rattle.candidate_order_spec.proofs.laws.Doubling.{has_raised, has_raised_zero, raised_without_zero, raised_with_zero, codes_raised, codes_raised_zero}

member_raised : (s a : ℕ) → member (2 * s) (suc a) ≡ member s a
member_raised s a = ap (λ (h : ℕ). eqb h 1) (has_raised s a)

member_raised_zero : (s a : ℕ) → member (2 * s + 1) (suc a) ≡ member s a
member_raised_zero s a = ap (λ (h : ℕ). eqb h 1) (has_raised_zero s a)

-- a code is above all of some codes
abbrev above : List ℕ → ℕ → Bool
above cs a = list_all (λ (b : ℕ). ltb b a) cs

above_raised : (cs : List ℕ) (a : ℕ) → above (map suc cs) (suc a) ≡ above cs a
above_raised cs a = all_map (λ (b : ℕ). ltb b (suc a)) (λ (b : ℕ). ltb b a) suc (λ b. leb-suc-suc (suc b) a) cs

above_raised_zero : (cs : List ℕ) (a : ℕ) → above (0 ∷ map suc cs) (suc a) ≡ above cs a
above_raised_zero cs a = rw (lt-ltb 0 (suc a) (omega arith)) (above_raised cs a)

module _ (s t : ℕ) (s_small : s < 32768) (t_small : t < 32768) where
  within_raised : within (2 * s) (2 * t) ≡ within s t
  unfolding within
  within_raised = rw (codes_raised s s_small) (all_map (member (2 * t)) (member t) suc (member_raised t) (codes s))

  within_raised_zero : within (2 * s + 1) (2 * t + 1) ≡ within s t
  unfolding within
  within_raised_zero =
      rw (codes_raised_zero s s_small, raised_with_zero t)
      (all_map (member (2 * t + 1)) (member t) suc (member_raised_zero t) (codes s))

  added_raised : added (2 * s) (2 * t) ≡ map suc (added s t)
  unfolding added
  added_raised =
      ap (filter (λ (a : ℕ). not (member (2 * s) a))) (codes_raised t t_small)
      ∙ filter_of_map _ (λ (a : ℕ). not (member s a)) suc (λ a. ap not (member_raised s a)) (codes t)

  added_raised_zero : added (2 * s + 1) (2 * t + 1) ≡ map suc (added s t)
  unfolding added
  added_raised_zero =
      rw (codes_raised_zero t t_small, raised_with_zero s)
      (filter_of_map _ (λ (a : ℕ). not (member s a)) suc (λ a. ap not (member_raised_zero s a)) (codes t))

  -- with each code one more in both sets
  pub extends_raised : extends (2 * s) (2 * t) ≡ extends s t
  unfolding extends
  extends_raised =
      rw (
        within_raised,
        added_raised,
        length-map,
        codes_raised s s_small,
        all_map (above (map suc (codes s))) (above (codes s)) suc (above_raised (codes s)) (added s t),
      )

  -- with code 0 besides in both
  pub extends_raised_zero : extends (2 * s + 1) (2 * t + 1) ≡ extends s t
  unfolding extends
  extends_raised_zero =
      rw (
        within_raised_zero,
        added_raised_zero,
        length-map,
        codes_raised_zero s s_small,
        all_map (above (0 ∷ map suc (codes s))) (above (codes s)) suc (above_raised_zero (codes s)) (added s t),
      )

  -- with code 0 in the first alone
  pub extends_mixed : extends (2 * s + 1) (2 * t) ≡ false
  unfolding extends within
  extends_mixed = rw (codes_raised_zero s s_small, raised_without_zero t)

-- every set that has codes extends the empty one
extends_nothing : (t : ℕ) → 0 < size t → extends 0 t ≡ true
unfolding extends within added codes size
extends_nothing t some =
    rw (
      every,
      lt-ltb 0 (size t) some,
      each_all (above []) (each_always (λ a. refl) (codes t)),
    )
  where
    not_in : (a : ℕ) → not (member 0 a) ≡ true
    not_in a = rw (zero-div (2 ^ a))

    every : filter (λ (a : ℕ). not (member 0 a)) (codes t) ≡ codes t
    every = filter_every (λ (a : ℕ). not (member 0 a)) (each_always not_in (codes t))

-- and so every set that has code 0 and more extends that of code 0 alone
pub extends_first : (t : ℕ) → t < 32768 → 0 < size t → extends 1 (2 * t + 1) ≡ true
extends_first t small some = extends_raised_zero 0 t (omega arith) small ∙ extends_nothing t some
