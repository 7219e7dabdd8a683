-- To be of one variant is an equality of counts, so it is reflexive, symmetric and transitive; it
-- is that of the tallies; and the test of the activities that a log can name decides it of traces
-- that name no other.
-- Assumes nothing.
use Prim.Native.Nat.{ℕ, ◌≤◌, ◌<◌}
use native.Mathlib.Omega.{arith}
use mathlib.Core.Path.{◌≡◌, refl, ap, sym, ◌∙◌}
use mathlib.Core.Bool.{true}
use mathlib.Core.Logic.{◌↔◌}
use mathlib.Core.List.{List}
use lib.Dec.{eqb, ltb}
use lib.ListN.{length, get_or}
use borrow.Author.Tests.{eqb-true, eq-eqb, ne_eqb, ltb-true, ltb-false}
use Rattle.foundation.specs.Lists.{Each, up_to}
use Rattle.foundation.proofs.laws.Booleans.{by_test, same_truth}
use Rattle.foundation.proofs.laws.Lists.{map_same, numbered_at}
use Rattle.foundation.proofs.laws.Each.{each_imply, all_each, each_all, each_up_to, up_to_each, filter_none}
use Rattle.limits.specs.Settings.{most_activities}
use Rattle.variants_spec.specs.Variants.{occurrences, tally, SameVariant, same_variant}

-- the test holds exactly if each of those activities occurs equally often
module _ (s t : List ℕ) where
  pub same_counts : same_variant s t ≡ true → (a : ℕ) → a < most_activities → occurrences s a ≡ occurrences t a
  unfolding same_variant
  same_counts same a less =
      eqb-true _ _ (up_to_each most_activities (all_each (λ (a : ℕ). eqb (occurrences s a) (occurrences t a)) (up_to most_activities) same) a less)

  pub counts_same : ((a : ℕ) → a < most_activities → occurrences s a ≡ occurrences t a) → same_variant s t ≡ true
  unfolding same_variant
  counts_same equal =
      each_all
      (λ (a : ℕ). eqb (occurrences s a) (occurrences t a))
      (each_up_to most_activities λ a less. eq-eqb _ _ (equal a less))

pub same_reflexive : (s : List ℕ) → same_variant s s ≡ true
same_reflexive s = counts_same s s (λ a less. refl)

pub same_back : (s t : List ℕ) → same_variant s t ≡ true → same_variant t s ≡ true
same_back s t same = counts_same t s (λ a less. sym (same_counts s t same a less))

pub same_onward : (s t u : List ℕ) → same_variant s t ≡ true → same_variant t u ≡ true → same_variant s u ≡ true
same_onward s t u first second = counts_same s u (λ a less. same_counts s t first a less ∙ same_counts t u second a less)

-- so two that are of one variant are so with any third alike
pub same_alike : (s t u : List ℕ) → same_variant s t ≡ true → same_variant s u ≡ same_variant t u
same_alike s t u same = same_truth (same_onward t s u (same_back s t same)) (same_onward s t u same)

-- and two are of one variant exactly if their tallies, their Parikh vectors, are equal
pub tallies_decide : (s t : List ℕ) → (same_variant s t ≡ true) ↔ (tally s ≡ tally t)
unfolding tally
tallies_decide s t = (
  λ same. map_same (occurrences s) (occurrences t) (each_up_to most_activities (same_counts s t same)),
  λ equal. counts_same s t (λ a less.
      sym (numbered_at (occurrences s) most_activities a less)
      ∙ ap (λ (counts : List ℕ). get_or counts a 0) equal
      ∙ numbered_at (occurrences t) most_activities a less),
)

-- an activity that a trace cannot name does not occur
occurs_not : {trace : List ℕ} → Each (λ (a : ℕ). a < most_activities) trace → (a : ℕ) → most_activities ≤ a → occurrences trace a ≡ 0
unfolding occurrences
occurs_not known a beyond = ap length (filter_none (eqb a) (each_imply (λ b less. ne_eqb a b (λ same. absurd (omega (arith, same)))) known))

-- the test decides the equality of all counts
pub same_decides : {s t : List ℕ} → Each (λ (a : ℕ). a < most_activities) s → Each (λ (a : ℕ). a < most_activities) t
    → (same_variant s t ≡ true) ↔ SameVariant s t
unfolding SameVariant
same_decides {s} {t} known known' = (
  λ same a. by_test
      (ltb a most_activities)
      (λ l. same_counts s t same a (ltb-true a most_activities l))
      (λ f. let beyond = ltb-false a most_activities f in
      occurs_not known a beyond ∙ sym (occurs_not known' a beyond)),
  λ equal. counts_same s t (λ a less. equal a),
)
