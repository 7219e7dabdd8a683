-- What the word of a rejected place says. Its place and its mark can be read back, so it rules a
-- candidate overfed exactly if the place was overfed and is at least as light, and underfed exactly
-- if the place was underfed and the candidate is at least as light. A candidate ruled overfed
-- passes that on to every heavier one, its descendants among them.
-- Assumes nothing.
use Prim.Native.Nat.{ℕ}
use native.Mathlib.Omega.{arith}
use mathlib.Core.Path.{◌≡◌, refl, ap, ◌∙◌}
use mathlib.Core.Bool.{Bool, true, false, ◌&&◌, ◌||◌, and-eq-true_iff, and-true, or-false}
use mathlib.Core.List.{List, [], ◌∷◌, ◌++◌}
use lib.Dec.{eqb}
use Rattle.std.specs.List.{list_any}
use Rattle.std.proofs.lemmas.List.Folds.{list_any-append}
use Rattle.foundation.proofs.laws.Any.{any_imply}
use Rattle.places.specs.declared.Place.{Place}
use Rattle.places.specs.Places.{place_of, lighter}
use Rattle.places.proofs.laws.Lighter.{lighter_refl, lighter_trans}
use Rattle.places.proofs.laws.Words.{Storable, word_small, word_back}
use Rattle.replay_spec.specs.declared.Verdict.{Verdict}
use Rattle.replay_spec.specs.declared.Verdict.TheVariants.{Fitting, Underfed, Overfed, Both}
use Rattle.replay_spec.specs.Judgement.{mark}
use Rattle.discovery_spec.specs.Rejected.{rejected_word, mark_in, place_in, rules_underfed, rules_overfed, ruled_overfed}

-- underfed, alone or with overfed
abbrev pub is_underfed : Verdict → Bool
is_underfed Fitting = false
is_underfed Underfed = true
is_underfed Overfed = false
is_underfed Both = true

-- overfed, alone or with underfed
abbrev pub is_overfed : Verdict → Bool
is_overfed Fitting = false
is_overfed Underfed = false
is_overfed Overfed = true
is_overfed Both = true

mark_underfed : (v : Verdict) → (eqb (mark v) 1 || eqb (mark v) 3) ≡ is_underfed v
unfolding mark
mark_underfed Fitting = refl
mark_underfed Underfed = refl
mark_underfed Overfed = refl
mark_underfed Both = refl

mark_overfed : (v : Verdict) → (eqb (mark v) 2 || eqb (mark v) 3) ≡ is_overfed v
unfolding mark
mark_overfed Fitting = refl
mark_overfed Underfed = refl
mark_overfed Overfed = refl
mark_overfed Both = refl

-- the word of a rejected place
module _ (p : Place) (v : Verdict) (storable : Storable p) where
  pub mark_back : mark_in (rejected_word p v) ≡ mark v
  unfolding rejected_word mark_in
  mark_back = omega (arith, word_small p storable)

  pub place_back : place_in (rejected_word p v) ≡ p
  unfolding rejected_word place_in
  place_back = ap place_of (omega (arith, word_small p storable)) ∙ word_back p storable

  -- which candidates it rules
  module _ (c : Place) where
    pub rules_underfed_lem : rules_underfed c (rejected_word p v) ≡ (is_underfed v && lighter c p)
    unfolding rules_underfed
    rules_underfed_lem = rw (mark_back, place_back, mark_underfed v)

    pub rules_overfed_lem : rules_overfed c (rejected_word p v) ≡ (is_overfed v && lighter p c)
    unfolding rules_overfed
    rules_overfed_lem = rw (mark_back, place_back, mark_overfed v)

  -- it rules its own place overfed as that was judged
  pub own_overfed : rules_overfed p (rejected_word p v) ≡ is_overfed v
  own_overfed = rules_overfed_lem p ∙ rw (lighter_refl p) (and-true (is_overfed v))

-- one word more rules what the words before it rule, and what it rules itself
module _ (ws : List ℕ) (w : ℕ) (c : Place) where
  pub underfed_more : list_any (rules_underfed c) (ws ++ (w ∷ [])) ≡ (list_any (rules_underfed c) ws || rules_underfed c w)
  underfed_more = list_any-append (rules_underfed c) ws (w ∷ []) ∙ ap (◌||◌ (list_any (rules_underfed c) ws)) (or-false (rules_underfed c w))

  pub overfed_more : ruled_overfed (ws ++ (w ∷ [])) c ≡ (ruled_overfed ws c || rules_overfed c w)
  unfolding ruled_overfed
  overfed_more = list_any-append (rules_overfed c) ws (w ∷ []) ∙ ap (◌||◌ (list_any (rules_overfed c) ws)) (or-false (rules_overfed c w))

  pub underfed_kept : list_any (rules_underfed c) ws ≡ true → list_any (rules_underfed c) (ws ++ (w ∷ [])) ≡ true
  underfed_kept e = underfed_more ∙ rw e

  pub overfed_kept : ruled_overfed ws c ≡ true → ruled_overfed (ws ++ (w ∷ [])) c ≡ true
  overfed_kept e = overfed_more ∙ rw e

-- a ruling passes on to heavier candidates
module _ (c d : Place) (light : lighter c d ≡ true) where
  pub rules_heavier : (w : ℕ) → rules_overfed c w ≡ true → rules_overfed d w ≡ true
  unfolding rules_overfed
  rules_heavier w e =
      let marked = eqb (mark_in w) 2 || eqb (mark_in w) 3 in
      let parts = (and-eq-true_iff marked (lighter (place_in w) c)).0 e in
      (and-eq-true_iff marked (lighter (place_in w) d)).1 (parts.0, lighter_trans (place_in w) c d parts.1 light)

  pub ruled_heavier : (ws : List ℕ) → ruled_overfed ws c ≡ true → ruled_overfed ws d ≡ true
  unfolding ruled_overfed
  ruled_heavier ws = any_imply rules_heavier ws
