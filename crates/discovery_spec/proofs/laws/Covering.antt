-- One run's cache and pruned candidates cover those of another: every ruling of the other's cache
-- is one of its own, and what is pruned in the other is pruned in it. It stays so where the
-- covering run gets a word more or prunes more; where both go on from a candidate, since the cache
-- that rules more prunes it too; and where the other alone goes on from a candidate that the
-- covering run prunes, since descendants of that candidate are descendants of the ancestor for
-- which it is pruned.
-- Assumes nothing.
use Prim.Native.Nat.{ℕ}
use mathlib.Core.Path.{◌≡◌}
use mathlib.Core.Bool.{true, or-true}
use mathlib.Core.List.{List, [], ◌∷◌, ◌++◌}
use Rattle.std.specs.List.{list_any}
use Rattle.foundation.proofs.laws.Any.{any_imply}
use Rattle.foundation.proofs.laws.Booleans.{by_test, or_true_either}
use Rattle.places.specs.declared.Place.{Place}
use Rattle.places.specs.Candidates.{descends}
use Rattle.candidate_order_spec.proofs.laws.Descendants.{descends_trans}
use Rattle.discovery_spec.specs.Rejected.{rules_underfed, ruled_overfed, ruled}
use Rattle.discovery_spec.proofs.laws.Rulings.{underfed_kept, overfed_kept}
use Rattle.discovery_spec.proofs.laws.Outcomes.{pruned_after}
use Rattle.discovery_spec.proofs.laws.Soundness.{among_descendants}

-- the words ws₂ and the pruned candidates ps₂ cover ws₁ and ps₁
pub record Covers (ws₁ ws₂ : List ℕ) (ps₁ ps₂ : List Place) : Type 0 where
  pub underfed : (d : Place) → list_any (rules_underfed d) ws₁ ≡ true → list_any (rules_underfed d) ws₂ ≡ true
  pub overfed : (d : Place) → ruled_overfed ws₁ d ≡ true → ruled_overfed ws₂ d ≡ true
  pub pruned : (d : Place) → among_descendants ps₁ d ≡ true → among_descendants ps₂ d ≡ true

-- every run covers itself
pub covers_self : (ws : List ℕ) (ps : List Place) → Covers ws ws ps ps
covers_self ws ps = record { underfed = λ d e. e; overfed = λ d e. e; pruned = λ d e. e }

-- what is pruned after a candidate c: what was, and the descendants of c where it is ruled overfed
module _ (c : Place) (ws : List ℕ) (ps : List Place) (d : Place) where
  after_kept : among_descendants ps d ≡ true → among_descendants (pruned_after c ws ps) d ≡ true
  after_kept e = by_test (ruled_overfed ws c) (λ r. rw (r, e) (or-true (descends c d))) (λ r. rw r e)

  after_own : ruled_overfed ws c ≡ true → descends c d ≡ true → among_descendants (pruned_after c ws ps) d ≡ true
  after_own r own = rw (r, own)

  after_either : {X : Type 0} → (ruled_overfed ws c ≡ true → descends c d ≡ true → X) → (among_descendants ps d ≡ true → X)
      → among_descendants (pruned_after c ws ps) d ≡ true → X
  after_either own kept e =
      by_test
      (ruled_overfed ws c)
      (λ r. or_true_either (descends c d) (among_descendants ps d) (own r) kept (rw r at e))
      (λ r. kept (rw r at e))

-- the descendants of a pruned candidate are pruned
pruned_on : (ps : List Place) (c d : Place) → among_descendants ps c ≡ true → descends c d ≡ true → among_descendants ps d ≡ true
pruned_on ps c d e own = any_imply (λ ancestor h. descends_trans ancestor c d h own) ps e

module _ {ws₁ ws₂ : List ℕ} {ps₁ ps₂ : List Place} (covers : Covers ws₁ ws₂ ps₁ ps₂) where
  -- what the one cache rules the other rules
  pub covers_ruled : (d : Place) → ruled ws₁ d ≡ true → ruled ws₂ d ≡ true
  unfolding ruled
  covers_ruled d =
      or_true_either
      (list_any (rules_underfed d) ws₁)
      (ruled_overfed ws₁ d)
      (λ e. rw (covers.underfed d e))
      (λ e. rw (covers.overfed d e) (or-true (list_any (rules_underfed d) ws₂)))

  -- a word more in the covering cache
  pub covers_cached : (w : ℕ) → Covers ws₁ (ws₂ ++ (w ∷ [])) ps₁ ps₂
  covers_cached w =
      record {
        underfed = λ d e. underfed_kept ws₂ w d (covers.underfed d e);
        overfed = λ d e. overfed_kept ws₂ w d (covers.overfed d e);
        pruned = covers.pruned;
      }

  -- the covering run alone goes on from c
  pub covers_second : (c : Place) → Covers ws₁ ws₂ ps₁ (pruned_after c ws₂ ps₂)
  covers_second c =
      record {
        underfed = covers.underfed;
        overfed = covers.overfed;
        pruned = λ d e. after_kept c ws₂ ps₂ d (covers.pruned d e);
      }

  -- both go on from c
  pub covers_both : (c : Place) → Covers ws₁ ws₂ (pruned_after c ws₁ ps₁) (pruned_after c ws₂ ps₂)
  covers_both c =
      record {
        underfed = covers.underfed;
        overfed = covers.overfed;
        pruned =
            λ d.
            after_either
            c
            ws₁
            ps₁
            d
            (λ r own. after_own c ws₂ ps₂ d (covers.overfed c r) own)
            (λ kept. after_kept c ws₂ ps₂ d (covers.pruned d kept));
      }

  -- the covered run alone goes on from c, which the covering one prunes
  pub covers_first : (c : Place) → among_descendants ps₂ c ≡ true → Covers ws₁ ws₂ (pruned_after c ws₁ ps₁) ps₂
  covers_first c e =
      record {
        underfed = covers.underfed;
        overfed = covers.overfed;
        pruned = λ d. after_either c ws₁ ps₁ d (λ r own. pruned_on ps₂ c d e own) (covers.pruned d);
      }
