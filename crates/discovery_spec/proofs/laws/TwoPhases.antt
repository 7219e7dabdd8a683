-- Two runs over the same candidates, of which the second has at least the room and the budget of
-- the first. Until the first cache is full their states are the same. From then on the second is
-- ahead: what it rules or prunes without a replay does not fit, so where the first replays it the
-- word is dropped, and nothing is pruned by it. So both find the same, and the second needs no more
-- replays and visits, as long as the first goes on; when the first stops, the second has found as
-- much. It is not so that the second cache holds what the first would take with more room: a place
-- that is underfed and overfed may be ruled underfed by the larger cache and never get into it.
-- Assumes nothing.
use Prim.Native.Nat.{ℕ, ◌≤◌, ◌<◌}
use native.Mathlib.Nat.{le_refl}
use native.Mathlib.Omega.{arith}
use mathlib.Core.Path.{◌≡◌, refl, sym, ap, ◌∙◌}
use mathlib.Core.Bool.{true, false}
use mathlib.Core.List.{List, [], append-nil}
use lib.Dec.{ltb}
use lib.ListN.{length}
use borrow.Author.Tests.{ltb-true, ltb-false}
use Rattle.foundation.specs.Lists.{Each, each_nil, each_cons}
use Rattle.std.specs.List.{fold}
use Rattle.foundation.proofs.laws.Booleans.{by_test, impossible}
use Rattle.places.specs.declared.Place.{Place}
use Rattle.places.specs.Places.{word}
use Rattle.places.proofs.laws.Words.{Storable}
use Rattle.replay_spec.specs.declared.Verdict.{Verdict}
use Rattle.discovery_spec.specs.declared.End.{End}
use Rattle.discovery_spec.specs.declared.End.TheVariants.{Completed, BudgetSpent, ListFull}
use Rattle.discovery_spec.specs.Search.{Capacity, State, Progress, going, stopped, start, visited, replayed_once, with_found, is_pruned, step, search, end_of, state_of}
use Rattle.discovery_spec.specs.TwoRuns.{is_fitting, AtLeast}
use Rattle.discovery_spec.proofs.laws.Outcomes.{tried, ReplayOutcome, spent, list_full, accepted, dropped, cached, Outcome, passed, known, replayed, step_outcome, outcome_is}
use Rattle.discovery_spec.proofs.laws.Soundness.{MonotoneVerdict, Sound, ruled_unfit, pruned_unfit, nothing_sound, outcome_sound}
use Rattle.discovery_spec.proofs.laws.OneRun.{Begins, begins_refl, begins_trans, step_grows, replayed_grows}
use Rattle.discovery_spec.proofs.laws.Covering.{covers_ruled}
use Rattle.discovery_spec.proofs.laws.SecondPhase.{Ahead, full_ahead, known_passed, known_known, dropped_passed, dropped_known, dropped_dropped, dropped_cached, accepted_accepted}

-- how the two runs stand to each other: in the first phase, in the second, or the first has stopped
data Paired (verdict : Place → Verdict) (first : Capacity) : Progress → Progress → Type 0 where
  together : {s : State} → Sound verdict s.rejected s.pruned → Paired verdict first (going s) (going s)
  apart : {s₁ s₂ : State} → Ahead verdict first s₁ s₂ → Paired verdict first (going s₁) (going s₂)
  halted : (end : End) {s₁ : State} {p₂ : Progress} → (end ≡ Completed → ⊥) → Begins s₁.found (state_of p₂).found
      → Paired verdict first (stopped end s₁) p₂

-- the second run completes too, and neither its replays nor its visits are more
pub record CompletesToo (p₁ p₂ : Progress) : Type 0 where
  pub completes : end_of p₂ ≡ Completed
  pub replays : (state_of p₂).replays ≤ (state_of p₁).replays
  pub visits : (state_of p₂).visits ≤ (state_of p₁).visits

same_begins : {xs ys : List ℕ} → xs ≡ ys → Begins xs ys
same_begins {xs} e = ([], sym e ∙ sym (append-nil xs))

module _ (verdict : Place → Verdict) (monotone : MonotoneVerdict verdict) (first second : Capacity) (more : AtLeast first second) where
  module _ (c : Place) (storable : Storable c) where
    -- a step of the first phase
    module _ (s : State) (sound : Sound verdict s.rejected s.pruned) where
      same : {t : State} → Outcome verdict second c s (going t) → Paired verdict first (going t) (step verdict second (going s) c)
      unfolding state_of
      same o = rw (outcome_is verdict second c s o) (together (outcome_sound verdict monotone c storable second sound o))

      together_step : length s.rejected < first.rejected → {p₁ : Progress} → Outcome verdict first c s p₁
          → Paired verdict first p₁ (step verdict second (going s) c)
      unfolding state_of visited replayed_once
      together_step free (passed e) = same (passed e)
      together_step free (known n r) = same (known n r)
      together_step free (replayed n u (spent h)) = halted BudgetSpent (λ e. cc) (step_grows verdict second (going s) c)
      together_step free (replayed n u (list_full h f l)) = halted ListFull (λ e. cc) (step_grows verdict second (going s) c)
      together_step free (replayed n u (accepted h f l)) = same (replayed n u (accepted (omega arith) f (omega arith)))
      together_step free (replayed n u (dropped h f l)) = absurd (omega arith)
      together_step free (replayed n u (cached h f l)) = same (replayed n u (cached (omega arith) f (omega arith)))

    -- a step of the second phase
    module _ (s₁ s₂ : State) (a : Ahead verdict first s₁ s₂) where
      -- the first replays alone what does not fit
      wasted : is_fitting (verdict c) ≡ false → {p₁ : Progress} {t₂ : State} → ReplayOutcome verdict first c s₁ p₁
          → Ahead verdict first (tried s₁) t₂ → Paired verdict first p₁ (going t₂)
      unfolding state_of visited replayed_once
      wasted unfit (spent h) b = halted BudgetSpent (λ e. cc) (same_begins b.found)
      wasted unfit (list_full h f l) b = impossible (cc)
      wasted unfit (accepted h f l) b = impossible (cc)
      wasted unfit (dropped h f l) b = apart b
      wasted unfit (cached h f l) b = absurd (omega arith)

      -- the first finds it: the second has budget and room for it
      both_fit : s₁.replays < first.budget → is_fitting (verdict c) ≡ true → length s₁.found < first.found
          → {p₂ : Progress} → ReplayOutcome verdict second c s₂ p₂ → Paired verdict first (going (with_found (word c) (tried s₁))) p₂
      both_fit h f l (spent h₂) = absurd (omega arith)
      both_fit h f l (list_full h₂ f₂ l₂) = absurd (omega (arith, ap length a.found))
      both_fit h f l (accepted h₂ f₂ l₂) = apart (accepted_accepted verdict first c a)
      both_fit h f l (dropped h₂ f₂ l₂) = impossible (cc)
      both_fit h f l (cached h₂ f₂ l₂) = impossible (cc)

      -- the first drops its word: the second drops or caches it
      both_unfit : s₁.replays < first.budget → is_fitting (verdict c) ≡ false → {p₂ : Progress} → ReplayOutcome verdict second c s₂ p₂
          → Paired verdict first (going (tried s₁)) p₂
      both_unfit h f (spent h₂) = absurd (omega arith)
      both_unfit h f (list_full h₂ f₂ l₂) = impossible (cc)
      both_unfit h f (accepted h₂ f₂ l₂) = impossible (cc)
      both_unfit h f (dropped h₂ f₂ l₂) = apart (dropped_dropped verdict first c a)
      both_unfit h f (cached h₂ f₂ l₂) = apart (dropped_cached verdict first c a monotone storable)

      -- the second has found as much when the first stops
      as_much : {p₂ : Progress} → ReplayOutcome verdict second c s₂ p₂ → Begins s₁.found (state_of p₂).found
      as_much t = begins_trans s₁.found s₂.found (same_begins a.found) (replayed_grows verdict second c s₂ t)

      both_replayed : {p₁ p₂ : Progress} → ReplayOutcome verdict first c s₁ p₁ → ReplayOutcome verdict second c s₂ p₂
          → Paired verdict first p₁ p₂
      unfolding visited replayed_once
      both_replayed (spent h) t = halted BudgetSpent (λ e. cc) (as_much t)
      both_replayed (list_full h f l) t = halted ListFull (λ e. cc) (as_much t)
      both_replayed (accepted h f l) t = both_fit h f l t
      both_replayed (dropped h f l) t = both_unfit h f t
      both_replayed (cached h f l) t = absurd (omega arith)

      not_passed_alone : is_pruned s₁ c ≡ true → is_pruned s₂ c ≡ false → ⊥
      unfolding is_pruned
      not_passed_alone e n = impossible (cc (a.covers.pruned c e))

      apart_step : {p₁ p₂ : Progress} → Outcome verdict first c s₁ p₁ → Outcome verdict second c s₂ p₂ → Paired verdict first p₁ p₂
      apart_step (passed e₁) (passed e₂) = apart a
      apart_step (passed e₁) (known n₂ r₂) = absurd (not_passed_alone e₁ n₂)
      apart_step (passed e₁) (replayed n₂ u₂ t₂) = absurd (not_passed_alone e₁ n₂)
      apart_step (known n₁ r₁) (passed e₂) = apart (known_passed verdict first c a e₂)
      apart_step (known n₁ r₁) (known n₂ r₂) = apart (known_known verdict first c a)
      apart_step (known n₁ r₁) (replayed n₂ u₂ t₂) = impossible (cc (covers_ruled a.covers c r₁))
      apart_step (replayed n₁ u₁ t₁) (passed e₂) =
          wasted (pruned_unfit verdict s₂ a.sound c e₂) t₁ (dropped_passed verdict first c a)
      apart_step (replayed n₁ u₁ t₁) (known n₂ r₂) =
          wasted (ruled_unfit verdict s₂ a.sound c r₂) t₁ (dropped_known verdict first c a)
      apart_step (replayed n₁ u₁ t₁) (replayed n₂ u₂ t₂) = both_replayed t₁ t₂

      ahead_step : Paired verdict first (step verdict first (going s₁) c) (step verdict second (going s₂) c)
      ahead_step = apart_step (step_outcome verdict first c s₁) (step_outcome verdict second c s₂)

    paired_step : {p₁ p₂ : Progress} → Paired verdict first p₁ p₂
        → Paired verdict first (step verdict first p₁ c) (step verdict second p₂ c)
    unfolding step
    paired_step (together {s} sound) =
        let n = length s.rejected in
        by_test
        (ltb n first.rejected)
        (λ e. together_step s sound (ltb-true n first.rejected e) (step_outcome verdict first c s))
        (λ e. ahead_step s s (full_ahead verdict first s sound (ltb-false n first.rejected e)))
    paired_step (apart {s₁} {s₂} a) = ahead_step s₁ s₂ a
    paired_step (halted end {s₁} {p₂} h b) =
        halted end h (begins_trans s₁.found (state_of p₂).found b (step_grows verdict second p₂ c))

  paired_run : {cs : List Place} → Each Storable cs → {p₁ p₂ : Progress} → Paired verdict first p₁ p₂
      → Paired verdict first (fold (step verdict first) p₁ cs) (fold (step verdict second) p₂ cs)
  paired_run each_nil pair = pair
  paired_run (each_cons {x = c} here later) pair = paired_run later (paired_step c here pair)

  paired_searches : {cs : List Place} → Each Storable cs → Paired verdict first (search verdict first cs) (search verdict second cs)
  unfolding search start
  paired_searches storable = paired_run storable (together (nothing_sound verdict))

  paired_begins : {p₁ p₂ : Progress} → Paired verdict first p₁ p₂ → Begins (state_of p₁).found (state_of p₂).found
  unfolding state_of
  paired_begins (together {s} sound) = begins_refl s.found
  paired_begins (apart a) = same_begins a.found
  paired_begins (halted end h b) = b

  -- what the first run found stands at the front of what the second found
  pub first_begins : {cs : List Place} → Each Storable cs
      → Begins (state_of (search verdict first cs)).found (state_of (search verdict second cs)).found
  first_begins storable = paired_begins (paired_searches storable)

  paired_completes : {p₁ p₂ : Progress} → Paired verdict first p₁ p₂ → end_of p₁ ≡ Completed → CompletesToo p₁ p₂
  unfolding end_of state_of
  paired_completes (together sound) e = record { completes = refl; replays = le_refl _; visits = le_refl _ }
  paired_completes (apart a) e = record { completes = refl; replays = a.replays; visits = a.visits }
  paired_completes (halted end h b) e = absurd (h e)

  -- where the first run completes, the second does as well
  pub second_completes : {cs : List Place} → Each Storable cs → end_of (search verdict first cs) ≡ Completed
      → CompletesToo (search verdict first cs) (search verdict second cs)
  second_completes storable = paired_completes (paired_searches storable)
