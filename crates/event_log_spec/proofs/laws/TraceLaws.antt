-- What checking asks of a trace, in the words of the written form: no code of A or more, and a
-- behaviour. A trace of two or more events is its first, those between and its last, and the checks
-- look at just these three.
-- Assumes nothing.
use Prim.Native.Nat.{ℕ, suc, ◌-◌, ◌≤◌, ◌<◌}
use native.Mathlib.Omega.{arith}
use native.Mathlib.Numerals.{add-one}
use mathlib.Core.Path.{◌≡◌, refl, ap, ap₂, ◌∙◌}
use mathlib.Core.Bool.{false, not, ◌||◌}
use mathlib.Core.List.{List, [], ◌∷◌, ◌++◌}
use borrow.Author.Tests.{leb-false, lt-leb, eqb-true, not-false}
use lib.Dec.{eqb, leb}
use lib.ListN.{length, take, get_or, length-append}
use lib.Seq.{take-append_seam, get_or-append_seam}
use Rattle.foundation.specs.Lists.{Each}
use Rattle.std.specs.List.{list_any}
use Rattle.foundation.proofs.laws.Booleans.{or_false_parts}
use Rattle.foundation.proofs.laws.Each.{each_imply, none_each, each_none}
use Rattle.foundation.proofs.laws.Lists.{last_split}
use Rattle.event_log_spec.specs.Frames.{Behaviour}
use Rattle.event_log_spec.specs.Checking.{names_unknown, endpoint_misplaced}

module _ (A : ℕ) where
  pub all_known : (trace : List ℕ) → names_unknown A trace ≡ false → Each (λ (a : ℕ). a < A) trace
  unfolding names_unknown
  all_known trace e = each_imply (leb-false A) (none_each (leb A) trace e)

  pub none_unknown : {trace : List ℕ} → Each (λ (a : ℕ). a < A) trace → names_unknown A trace ≡ false
  unfolding names_unknown
  none_unknown known = each_none (leb A) (each_imply (lt-leb A) known)

-- the three tests, with n events between the first and the last
placed_tests : (a : ℕ) (later : List ℕ) (n : ℕ) → length later ≡ suc n
    → endpoint_misplaced (a ∷ later)
    ≡ (not (eqb a 0) || not (eqb (get_or later n 0) 1) || list_any (λ (b : ℕ). leb b 1) (take n later))
unfolding endpoint_misplaced
placed_tests a later n e =
    let last : suc (length later) - 1 ≡ suc n = omega arith in
    let inside : suc (length later) - 2 ≡ n = omega arith in
    rw (last, inside)

pub placed_behaviour : (trace : List ℕ) → 2 ≤ length trace → endpoint_misplaced trace ≡ false → Behaviour trace
placed_behaviour [] long e = absurd (omega arith)
placed_behaviour (a ∷ []) long e = absurd (omega arith)
placed_behaviour (a ∷ (b ∷ rest)) long e =
    let between = take (length rest) (b ∷ rest) in
    let last = get_or (b ∷ rest) (length rest) 0 in
    let tests = rw (placed_tests a (b ∷ rest) (length rest) refl) at e in
    let parts = or_false_parts (not (eqb a 0) || not (eqb last 1)) (list_any (λ (c : ℕ). leb c 1) between) tests in
    let outer = or_false_parts (not (eqb a 0)) (not (eqb last 1)) parts.0 in
    record {
      between = between;
      ends =
          ap₂ ◌∷◌
          (eqb-true a 0 (not-false (eqb a 0) outer.0))
          (last_split b rest 0 ∙ ap (λ (c : ℕ). between ++ (c ∷ [])) (eqb-true last 1 (not-false (eqb last 1) outer.1)));
      neither = each_imply (λ c f. omega (arith, leb-false c 1 f)) (none_each (λ (c : ℕ). leb c 1) between parts.1);
    }

endpoints_placed : (between : List ℕ) → Each (λ (a : ℕ). 2 ≤ a) between → endpoint_misplaced (0 ∷ (between ++ (1 ∷ []))) ≡ false
endpoints_placed between neither =
    rw (
      placed_tests 0 (between ++ (1 ∷ [])) (length between) (length-append between (1 ∷ []) ∙ add-one (length between)),
      get_or-append_seam between 1 [] 0,
      take-append_seam between (1 ∷ []),
    ) (each_none (λ (a : ℕ). leb a 1) (each_imply (λ a. lt-leb a 1) neither))

pub behaviour_placed : {trace : List ℕ} → Behaviour trace → endpoint_misplaced trace ≡ false
behaviour_placed b = rw b.ends (endpoints_placed b.between (each_imply (λ a h. omega arith) b.neither))
