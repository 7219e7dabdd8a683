-- Room for more rejected words changes nothing in a run that never filled the room it had: the
-- cache of rejected words only grows, so one that is not full at the end was full at no step, and a
-- step asks of its room only whether one word more fits.
-- Assumes nothing.
use Prim.Native.Nat.{ℕ, ◌≤◌, ◌<◌}
use native.Mathlib.Omega.{arith}
use mathlib.Core.Path.{◌≡◌, refl, ap, ◌∙◌}
use mathlib.Core.List.{List, [], ◌∷◌}
use lib.ListN.{length}
use borrow.Author.Tests.{lt-ltb}
use Rattle.std.specs.List.{fold}
use Rattle.places.specs.declared.Place.{Place}
use Rattle.replay_spec.specs.declared.Verdict.{Verdict}
use Rattle.replay_spec.specs.declared.Verdict.TheVariants.{Fitting, Underfed, Overfed, Both}
use Rattle.discovery_spec.specs.Search.{holding, State, Progress, going, stopped, start, visited, replayed_once, accept, reject, conclude, replay, visit, step, search, state_of}
use Rattle.discovery_spec.proofs.laws.RunSteps.{run_grown}

-- the rejected words that a run has
abbrev cached : Progress → ℕ
cached p = length (state_of p).rejected

module _ (found budget : ℕ) {small large : ℕ} (more : small ≤ large) where
  reject_same : (v : Verdict) (c : Place) (s : State) → length s.rejected < small
      → reject (holding small found budget) v c s ≡ reject (holding large found budget) v c s
  unfolding reject
  reject_same v c s free =
      rw (lt-ltb (length s.rejected) small free, lt-ltb (length s.rejected) large (omega arith))

  conclude_same : (v : Verdict) (c : Place) (s : State) → length s.rejected < small
      → conclude (holding small found budget) v c s ≡ conclude (holding large found budget) v c s
  unfolding conclude accept
  conclude_same Fitting c s free = refl
  conclude_same Underfed c s free = reject_same Underfed c s free
  conclude_same Overfed c s free = reject_same Overfed c s free
  conclude_same Both c s free = reject_same Both c s free

module _ (verdict : Place → Verdict) (found budget : ℕ) {small large : ℕ} (more : small ≤ large) where
  step_same : (p : Progress) (c : Place) → cached p < small
      → step verdict (holding small found budget) p c ≡ step verdict (holding large found budget) p c
  unfolding step visit replay visited replayed_once state_of
  step_same (going s) c free = rw (conclude_same found budget more (verdict c) c (replayed_once (visited s)) free)
  step_same (stopped end s) c free = refl

  run_same : (cs : List Place) (p : Progress) → cached (fold (step verdict (holding small found budget)) p cs) < small
      → fold (step verdict (holding small found budget)) p cs ≡ fold (step verdict (holding large found budget)) p cs
  run_same [] p free = refl
  run_same (c ∷ cs) p free =
      run_same cs (step verdict (holding small found budget) p c) free
      ∙ ap (λ (q : Progress). fold (step verdict (holding large found budget)) q cs) (step_same p c (omega (arith, (run_grown verdict (holding small found budget) (c ∷ cs) p).rejected)))

  -- a run that did not fill its room for rejected words is the same run with more of it
  pub larger_cache : (cs : List Place) → length (state_of (search verdict (holding small found budget) cs)).rejected < small
      → search verdict (holding small found budget) cs ≡ search verdict (holding large found budget) cs
  unfolding search
  larger_cache cs free = run_same cs (going start) free
