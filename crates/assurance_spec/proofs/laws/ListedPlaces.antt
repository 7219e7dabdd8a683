-- The words of the fitting candidates stand for exactly these places, each once and in order, since
-- words can be read back. So each stands for a place that a call without settings takes, and
-- whether it is a union can be tested; the reduction then keeps exactly the words whose place is no
-- union, in the order of the list.
-- Assumes nothing.
use Prim.Native.Nat.{ℕ, ◌≤◌}
use mathlib.Core.Path.{◌≡◌, refl, ap, ◌∙◌}
use mathlib.Core.Logic.Iff
use mathlib.Core.Logic.{◌↔◌}
use mathlib.Core.Bool.{Bool, not}
use mathlib.Core.List.Memᴰ
use mathlib.Core.List.{List, map, Memᴰ}
use Rattle.foundation.specs.Lists.{Ordered}
use Rattle.foundation.proofs.laws.Booleans.{not_decides}
use Rattle.foundation.proofs.laws.Lists.{filter_of_map}
use Rattle.foundation.proofs.laws.Members.{members_each, member_filter}
use Rattle.foundation.proofs.laws.Ordered.{ordered_filter}
use Rattle.limits.specs.declared.Settings.{Settings}
use Rattle.limits.specs.Settings.{most_activities}
use Rattle.places.specs.declared.Place.{Place}
use Rattle.places.specs.Places.{word, place_of}
use Rattle.places.specs.Order.{PlaceBefore}
use Rattle.candidate_order_spec.proofs.laws.CandidateOrder.{candidate_under}
use Rattle.discovery_spec.specs.TwoRuns.{fitting_candidates, AllFitting}
use Rattle.reduction_spec.specs.Unions.{UnionOf, is_union}
use Rattle.reduction_spec.specs.Reduction.{redundant, reduced_words}
use Rattle.reduction_spec.specs.Cover.{Listable}
use Rattle.assurance_spec.specs.Demand3.{ExactlyFitting, ExactlyIrredundant}
use Rattle.reduction_spec.proofs.laws.UnionTests.{union_test}

module _ (s : Settings) (text words : List ℕ) where
  pub exactly_fitting : words ≡ map word (fitting_candidates s text) → AllFitting s text → ExactlyFitting s text words
  exactly_fitting these all =
      let places : map place_of words ≡ fitting_candidates s text = ap (map place_of) these ∙ all.by_words in
      record {
        these = these;
        exactly = λ p. rw places (all.exactly p);
        once = rw places all.once;
        in_order = rw places all.in_order;
      }

  pub fitting_listable : s.activities ≤ most_activities → ExactlyFitting s text words → Listable words
  unfolding Listable
  fitting_listable few fitting =
      members_each words (λ w at. candidate_under s few (place_of w) ((fitting.exactly (place_of w)).0 (Memᴰ.map place_of at)).0)

module _ (words : List ℕ) where
  -- a word is kept exactly if it is listed and its place is no union
  kept_exactly : Listable words → (w : ℕ) → Memᴰ w (reduced_words words) ↔ (Memᴰ w words × (UnionOf words (place_of w) → ⊥))
  unfolding reduced_words redundant
  kept_exactly places w =
      Iff.trans
      (member_filter (λ (v : ℕ). not (redundant words v)) words)
      (Iff.and Iff.rfl (not_decides (is_union words (place_of w)) (union_test places (place_of w))))

  -- the places of the kept words are those of the list's that are no union
  kept_in_order : Ordered PlaceBefore (map place_of words) → Ordered PlaceBefore (map place_of (reduced_words words))
  unfolding reduced_words redundant
  kept_in_order ordered =
      let irredundant : Place → Bool = λ p. not (is_union words p) in
      rw (← filter_of_map irredundant (λ (w : ℕ). irredundant (place_of w)) place_of (λ w. refl) words) (ordered_filter irredundant ordered)

  pub exactly_irredundant : Listable words → Ordered PlaceBefore (map place_of words) → ExactlyIrredundant words (reduced_words words)
  exactly_irredundant places ordered = record { these = refl; exactly = kept_exactly places; in_order = kept_in_order ordered }
