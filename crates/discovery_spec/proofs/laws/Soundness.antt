-- A run never judges a candidate wrongly without replaying it, where verdicts are monotone: each
-- word of the cache carries the verdict of its place, so what it rules is so; and whatever is
-- pruned is ruled overfed by the cache, since it is heavier than a candidate that is. Hence no
-- fitting candidate is ruled or pruned.
-- Assumes nothing.
use Prim.Native.Nat.{ℕ}
use mathlib.Core.Path.{◌≡◌, refl}
use mathlib.Core.Bool.{Bool, true, false, and-eq-true_iff, false≢true}
use mathlib.Core.List.{List, [], ◌∷◌, ◌++◌}
use Rattle.std.specs.List.{list_any}
use Rattle.foundation.proofs.laws.Booleans.{by_test, or_true_either, impossible}
use Rattle.places.specs.declared.Place.{Place}
use Rattle.places.specs.Places.{lighter}
use Rattle.places.specs.Candidates.{descends}
use Rattle.candidate_order_spec.proofs.laws.Descendants.{descends_lighter}
use Rattle.places.proofs.laws.Words.{Storable}
use Rattle.replay_spec.specs.declared.Verdict.{Verdict}
use Rattle.replay_spec.specs.declared.Verdict.TheVariants.{Fitting, Underfed, Overfed, Both}
use Rattle.discovery_spec.specs.Rejected.{rejected_word, rules_underfed, rules_overfed, ruled_overfed, ruled}
use Rattle.discovery_spec.specs.Search.{Capacity, State, Progress, going, stopped, visited, replayed_once, with_found, with_rejected, is_pruned, step, state_of}
use Rattle.discovery_spec.specs.TwoRuns.{is_fitting}
use Rattle.discovery_spec.proofs.laws.Rulings.{is_underfed, is_overfed, rules_underfed_lem, rules_overfed_lem, underfed_more, overfed_more, overfed_kept, ruled_heavier}
use Rattle.discovery_spec.proofs.laws.Outcomes.{pruned_after, ReplayOutcome, spent, list_full, accepted, dropped, cached, Outcome, passed, known, replayed, step_outcome}

-- with p at least as light, p is underfed if q is, and q is overfed if p is
pub record MonotoneVerdict (verdict : Place → Verdict) : Type 0 where
  pub underfed : (p q : Place) → lighter p q ≡ true → is_underfed (verdict q) ≡ true → is_underfed (verdict p) ≡ true
  pub overfed : (p q : Place) → lighter p q ≡ true → is_overfed (verdict p) ≡ true → is_overfed (verdict q) ≡ true

-- d is a descendant of one of these candidates
abbrev pub among_descendants : List Place → Place → Bool
among_descendants pruned d = list_any (λ (ancestor : Place). descends ancestor d) pruned

-- what the cache rules is so, and what is pruned it rules overfed
pub record Sound (verdict : Place → Verdict) (rejected : List ℕ) (pruned : List Place) : Type 0 where
  pub underfed : (d : Place) → list_any (rules_underfed d) rejected ≡ true → is_underfed (verdict d) ≡ true
  pub overfed : (d : Place) → ruled_overfed rejected d ≡ true → is_overfed (verdict d) ≡ true
  pub pruned_ruled : (d : Place) → among_descendants pruned d ≡ true → ruled_overfed rejected d ≡ true

-- the same of a state, or of a run that has it
abbrev pub SoundRun : (Place → Verdict) → Progress → Type 0
SoundRun verdict p = Sound verdict (state_of p).rejected (state_of p).pruned

underfed_unfit : (v : Verdict) → is_underfed v ≡ true → is_fitting v ≡ false
unfolding is_fitting
underfed_unfit Fitting e = impossible (cc)
underfed_unfit Underfed e = refl
underfed_unfit Overfed e = refl
underfed_unfit Both e = refl

overfed_unfit : (v : Verdict) → is_overfed v ≡ true → is_fitting v ≡ false
unfolding is_fitting
overfed_unfit Fitting e = impossible (cc)
overfed_unfit Underfed e = refl
overfed_unfit Overfed e = refl
overfed_unfit Both e = refl

-- a candidate that is ruled or pruned does not fit
module _ (verdict : Place → Verdict) (s : State) (sound : Sound verdict s.rejected s.pruned) (c : Place) where
  pub ruled_unfit : ruled s.rejected c ≡ true → is_fitting (verdict c) ≡ false
  unfolding ruled
  ruled_unfit =
      or_true_either
      (list_any (rules_underfed c) s.rejected)
      (ruled_overfed s.rejected c)
      (λ e. underfed_unfit (verdict c) (sound.underfed c e))
      (λ e. overfed_unfit (verdict c) (sound.overfed c e))

  pub pruned_unfit : is_pruned s c ≡ true → is_fitting (verdict c) ≡ false
  unfolding is_pruned
  pruned_unfit e = overfed_unfit (verdict c) (sound.overfed c (sound.pruned_ruled c e))

-- a fresh run, which rules and prunes nothing
pub nothing_sound : (verdict : Place → Verdict) → Sound verdict [] []
unfolding ruled_overfed
nothing_sound verdict =
    record {
      underfed = λ d e. absurd (false≢true e);
      overfed = λ d e. absurd (false≢true e);
      pruned_ruled = λ d e. absurd (false≢true e);
    }

-- it stays so where c is pruned because the cache rules it overfed
pub sound_after : (verdict : Place → Verdict) {ws : List ℕ} {ps : List Place} (c : Place) → Sound verdict ws ps
    → Sound verdict ws (pruned_after c ws ps)
sound_after verdict {ws} {ps} c sound =
    by_test
    (ruled_overfed ws c)
    (λ e. rw e (record { underfed = sound.underfed; overfed = sound.overfed; pruned_ruled = more e }))
    (λ e. rw e sound)
  where
    more : ruled_overfed ws c ≡ true → (d : Place) → among_descendants (c ∷ ps) d ≡ true → ruled_overfed ws d ≡ true
    more e d =
        or_true_either
        (descends c d)
        (among_descendants ps d)
        (λ own. ruled_heavier c d (descends_lighter c d own) ws e)
        (sound.pruned_ruled d)

module _ (verdict : Place → Verdict) (monotone : MonotoneVerdict verdict) (c : Place) (storable : Storable c) where
  abbrev added : ℕ
  added = rejected_word c (verdict c)

  rules_underfed_truly : (d : Place) → rules_underfed d added ≡ true → is_underfed (verdict d) ≡ true
  rules_underfed_truly d e =
      let parts = (and-eq-true_iff (is_underfed (verdict c)) (lighter d c)).0 (rw (rules_underfed_lem c (verdict c) storable d) at e) in
      monotone.underfed d c parts.1 parts.0

  rules_overfed_truly : (d : Place) → rules_overfed d added ≡ true → is_overfed (verdict d) ≡ true
  rules_overfed_truly d e =
      let parts = (and-eq-true_iff (is_overfed (verdict c)) (lighter c d)).0 (rw (rules_overfed_lem c (verdict c) storable d) at e) in
      monotone.overfed c d parts.1 parts.0

  -- it stays so where the word of c goes into the cache
  pub sound_cached : {ws : List ℕ} {ps : List Place} → Sound verdict ws ps → Sound verdict (ws ++ (added ∷ [])) ps
  sound_cached {ws} {ps} sound =
      record {
        underfed =
            λ d e.
            or_true_either
            (list_any (rules_underfed d) ws)
            (rules_underfed d added)
            (sound.underfed d)
            (rules_underfed_truly d)
            (rw (underfed_more ws added d) at e);
        overfed =
            λ d e.
            or_true_either
            (ruled_overfed ws d)
            (rules_overfed d added)
            (sound.overfed d)
            (rules_overfed_truly d)
            (rw (overfed_more ws added d) at e);
        pruned_ruled = λ d e. overfed_kept ws added d (sound.pruned_ruled d e);
      }

  module _ (room : Capacity) {s : State} (sound : Sound verdict s.rejected s.pruned) where
    replayed_sound : {p : Progress} → ReplayOutcome verdict room c s p → SoundRun verdict p
    unfolding state_of visited replayed_once with_found with_rejected
    replayed_sound (spent h) = sound
    replayed_sound (list_full h f l) = sound
    replayed_sound (accepted h f l) = sound
    replayed_sound (dropped h f l) = sound
    replayed_sound (cached h f l) = sound_after verdict c (sound_cached sound)

    -- so it stays so whatever comes of a candidate
    pub outcome_sound : {p : Progress} → Outcome verdict room c s p → SoundRun verdict p
    unfolding state_of visited
    outcome_sound (passed e) = sound
    outcome_sound (known n r) = sound_after verdict c sound
    outcome_sound (replayed n u t) = replayed_sound t

  -- and over every step of a run
  pub step_sound : (room : Capacity) (p : Progress) → SoundRun verdict p → SoundRun verdict (step verdict room p c)
  unfolding step state_of
  step_sound room (going s) sound = outcome_sound room sound (step_outcome verdict room c s)
  step_sound room (stopped end s) sound = sound
