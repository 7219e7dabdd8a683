-- What holds of the words that a run finds. While it goes on, they and those of the fitting
-- candidates that remain are those of all fitting candidates, since no fitting candidate is ruled
-- or pruned; so a run that completes found all of them, and one that stopped a beginning. And the
-- words found only grow.
-- Assumes nothing.
use Prim.Native.Nat.{ℕ}
use mathlib.Core.Path.{◌≡◌, refl, sym, ap, ◌∙◌}
use mathlib.Core.Bool.{false}
use mathlib.Core.List.{List, [], ◌∷◌, ◌++◌, map, append-nil, append_assoc}
use Rattle.foundation.specs.Lists.{Each, each_nil, each_cons}
use Rattle.std.specs.List.{filter, fold}
use Rattle.places.specs.declared.Place.{Place}
use Rattle.places.specs.Places.{word}
use Rattle.places.proofs.laws.Words.{Storable}
use Rattle.replay_spec.specs.declared.Verdict.{Verdict}
use Rattle.discovery_spec.specs.declared.End.TheVariants.{Completed}
use Rattle.discovery_spec.specs.Search.{Capacity, State, Progress, going, stopped, start, visited, replayed_once, with_found, with_rejected, step, search, end_of, state_of}
use Rattle.discovery_spec.specs.TwoRuns.{is_fitting}
use Rattle.discovery_spec.proofs.laws.Outcomes.{ReplayOutcome, spent, list_full, accepted, dropped, cached, Outcome, passed, known, replayed, step_outcome}
use Rattle.discovery_spec.proofs.laws.Soundness.{MonotoneVerdict, Sound, SoundRun, ruled_unfit, pruned_unfit, nothing_sound, step_sound}

-- the candidates of some that fit
abbrev pub fitting_among : (Place → Verdict) → List Place → List Place
fitting_among verdict cs = filter (λ (p : Place). is_fitting (verdict p)) cs

-- some words are the beginning of others
abbrev pub Begins : List ℕ → List ℕ → Type 0
Begins xs ys = (rest : List ℕ) × (ys ≡ xs ++ rest)

-- every list begins with itself, and with what its beginnings begin with
pub begins_refl : (xs : List ℕ) → Begins xs xs
begins_refl xs = ([], sym (append-nil xs))

pub begins_trans : (xs ys : List ℕ) {zs : List ℕ} → Begins xs ys → Begins ys zs → Begins xs zs
begins_trans xs ys (r, e) (t, f) = (r ++ t, f ∙ ap (λ (l : List ℕ). l ++ t) e ∙ append_assoc xs r t)

-- what a run found stands at the front of all that it finds later
module _ (verdict : Place → Verdict) (room : Capacity) where
  pub replayed_grows : (c : Place) (s : State) {p : Progress} → ReplayOutcome verdict room c s p → Begins s.found (state_of p).found
  unfolding state_of visited replayed_once with_found with_rejected
  replayed_grows c s (spent h) = begins_refl s.found
  replayed_grows c s (list_full h f l) = begins_refl s.found
  replayed_grows c s (accepted h f l) = (word c ∷ [], refl)
  replayed_grows c s (dropped h f l) = begins_refl s.found
  replayed_grows c s (cached h f l) = begins_refl s.found

  outcome_grows : (c : Place) (s : State) {p : Progress} → Outcome verdict room c s p → Begins s.found (state_of p).found
  unfolding state_of visited
  outcome_grows c s (passed e) = begins_refl s.found
  outcome_grows c s (known n r) = begins_refl s.found
  outcome_grows c s (replayed n u t) = replayed_grows c s t

  pub step_grows : (p : Progress) (c : Place) → Begins (state_of p).found (state_of (step verdict room p c)).found
  unfolding step state_of
  step_grows (going s) c = outcome_grows c s (step_outcome verdict room c s)
  step_grows (stopped end s) c = begins_refl s.found

-- with the fitting ones among the remaining candidates a run that goes on has these words; one that
-- stopped did not complete, and has a beginning of them
abbrev Accounted : (Place → Verdict) → List ℕ → List Place → Progress → Type 0
Accounted verdict total cs (going s) = s.found ++ map word (fitting_among verdict cs) ≡ total
Accounted verdict total cs (stopped end s) = (end ≡ Completed → ⊥) × Begins s.found total

module _ (verdict : Place → Verdict) (room : Capacity) (total : List ℕ) where
  module _
      (c : Place)
      (cs : List Place)
      (s : State)
      (sound : Sound verdict s.rejected s.pruned)
      (before : Accounted verdict total (c ∷ cs) (going s))
    where
      abbrev remaining : List ℕ
      remaining = map word (fitting_among verdict (c ∷ cs))

      unfit_accounted : is_fitting (verdict c) ≡ false → Accounted verdict total cs (going s)
      unfit_accounted f = rw f at before

      replayed_accounted : {p : Progress} → ReplayOutcome verdict room c s p → Accounted verdict total cs p
      unfolding visited replayed_once with_found with_rejected
      replayed_accounted (spent h) = (λ e. cc, (remaining, sym before))
      replayed_accounted (list_full h f l) = (λ e. cc, (remaining, sym before))
      replayed_accounted (accepted h f l) = append_assoc s.found (word c ∷ []) (map word (fitting_among verdict cs)) ∙ rw f at before
      replayed_accounted (dropped h f l) = unfit_accounted f
      replayed_accounted (cached h f l) = unfit_accounted f

      outcome_accounted : {p : Progress} → Outcome verdict room c s p → Accounted verdict total cs p
      unfolding visited
      outcome_accounted (passed e) = unfit_accounted (pruned_unfit verdict s sound c e)
      outcome_accounted (known n r) = unfit_accounted (ruled_unfit verdict s sound c r)
      outcome_accounted (replayed n u t) = replayed_accounted t

  step_accounted : (c : Place) (cs : List Place) (p : Progress) → SoundRun verdict p → Accounted verdict total (c ∷ cs) p
      → Accounted verdict total cs (step verdict room p c)
  unfolding step state_of
  step_accounted c cs (going s) sound before = outcome_accounted c cs s sound before (step_outcome verdict room c s)
  step_accounted c cs (stopped end s) sound before = before

  run_accounted : MonotoneVerdict verdict → {cs : List Place} → Each Storable cs → (p : Progress) → SoundRun verdict p
      → Accounted verdict total cs p → Accounted verdict total [] (fold (step verdict room) p cs)
  run_accounted monotone each_nil p sound before = before
  run_accounted monotone (each_cons {x = c} {xs = cs} here later) p sound before =
      run_accounted
      monotone
      later
      (step verdict room p c)
      (step_sound verdict monotone c here room p sound)
      (step_accounted c cs p sound before)

-- all candidates from a fresh run
module _ (verdict : Place → Verdict) (monotone : MonotoneVerdict verdict) (room : Capacity) {cs : List Place} (storable : Each Storable cs) where
  abbrev total : List ℕ
  total = map word (fitting_among verdict cs)

  search_accounted : Accounted verdict total [] (search verdict room cs)
  unfolding search start state_of
  search_accounted = run_accounted verdict room total monotone storable (going start) (nothing_sound verdict) refl

  accounted_all : (p : Progress) → Accounted verdict total [] p → end_of p ≡ Completed → (state_of p).found ≡ total
  unfolding end_of state_of
  accounted_all (going s) e complete = sym (append-nil s.found) ∙ e
  accounted_all (stopped end s) h complete = absurd (h.0 complete)

  accounted_beginning : (p : Progress) → Accounted verdict total [] p → Begins (state_of p).found total
  unfolding state_of
  accounted_beginning (going s) e = ([], sym e)
  accounted_beginning (stopped end s) h = h.1

  -- a run that completes found exactly the fitting candidates, in their order
  pub found_all : end_of (search verdict room cs) ≡ Completed → (state_of (search verdict room cs)).found ≡ map word (fitting_among verdict cs)
  found_all = accounted_all (search verdict room cs) search_accounted

  -- whatever its end, a run found a beginning of them
  pub found_beginning : Begins (state_of (search verdict room cs)).found (map word (fitting_among verdict cs))
  found_beginning = accounted_beginning (search verdict room cs) search_accounted
