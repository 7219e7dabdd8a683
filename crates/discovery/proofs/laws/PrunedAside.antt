-- What a run has pruned matters only to the candidates still to come: entries below which none of
-- them stands can be put aside, and the run does the same without them. So a function that carries
-- a run on need not be told what was pruned before. Candidates that are pruned change nothing.
-- Assumes nothing.
use mathlib.Core.Path.{◌≡◌, refl, ap, ◌∙◌}
use mathlib.Core.Bool.{Bool, true, false, cond, or-false}
use mathlib.Core.List.{List, ◌++◌}
use lib.Dec.{ltb, leb}
use lib.ListN.{length}
use Rattle.foundation.specs.Lists.{Each, each_nil, each_cons}
use Rattle.std.specs.List.{list_any, fold}
use Rattle.std.proofs.lemmas.List.Folds.{list_any-append}
use Rattle.places.specs.declared.Place.{Place}
use Rattle.places.specs.Places.{word}
use Rattle.places.specs.Candidates.{descends}
use Rattle.replay_spec.specs.declared.Verdict.{Verdict}
use Rattle.replay_spec.specs.declared.Verdict.TheVariants.{Fitting, Underfed, Overfed, Both}
use Rattle.discovery_spec.specs.declared.End.TheVariants.{BudgetSpent, ListFull}
use Rattle.discovery_spec.specs.Rejected.{rejected_word, ruled, ruled_overfed}
use Rattle.discovery_spec.specs.Search.{Capacity, State, Progress, going, stopped, visited, replayed_once, with_found, with_rejected, with_pruned, proceed, is_pruned, accept, reject, conclude, replay, visit, step}

-- c stands below none of these
abbrev pub NotBelow : List Place → Place → Type 0
NotBelow ps c = list_any (λ (ancestor : Place). descends ancestor c) ps ≡ false

-- a state, and progress, with further entries among the pruned
abbrev pub pruning : List Place → State → State
pruning ps s =
    record { rejected = s.rejected; found = s.found; replays = s.replays; visits = s.visits; pruned = s.pruned ++ ps }

abbrev pub pruning_below : List Place → Progress → Progress
pruning_below ps (going s) = going (pruning ps s)
pruning_below ps (stopped end s) = stopped end (pruning ps s)

module _ (ps : List Place) where
  proceed_aside : (c : Place) (s : State) → proceed c (pruning ps s) ≡ pruning_below ps (proceed c s)
  unfolding proceed with_pruned
  proceed_aside c s = go (ruled_overfed s.rejected c)
    where
      go : (b : Bool) → going (cond b (with_pruned c (pruning ps s)) (pruning ps s)) ≡ pruning_below ps (going (cond b (with_pruned c s) s))
      go true = refl
      go false = refl

  module _ (room : Capacity) where
    accept_aside : (c : Place) (s : State) → accept room c (pruning ps s) ≡ pruning_below ps (accept room c s)
    unfolding accept with_found
    accept_aside c s = go (ltb (length s.found) room.found)
      where
        go : (b : Bool)
            → cond b (proceed c (with_found (word c) (pruning ps s))) (stopped ListFull (pruning ps s))
            ≡ pruning_below ps (cond b (proceed c (with_found (word c) s)) (stopped ListFull s))
        go true = proceed_aside c (with_found (word c) s)
        go false = refl

    reject_aside : (v : Verdict) (c : Place) (s : State) → reject room v c (pruning ps s) ≡ pruning_below ps (reject room v c s)
    unfolding reject with_rejected
    reject_aside v c s = go (ltb (length s.rejected) room.rejected)
      where
        go : (b : Bool)
            → proceed c (cond b (with_rejected (rejected_word c v) (pruning ps s)) (pruning ps s))
            ≡ pruning_below ps (proceed c (cond b (with_rejected (rejected_word c v) s) s))
        go true = proceed_aside c (with_rejected (rejected_word c v) s)
        go false = proceed_aside c s

    conclude_aside : (v : Verdict) (c : Place) (s : State) → conclude room v c (pruning ps s) ≡ pruning_below ps (conclude room v c s)
    unfolding conclude
    conclude_aside Fitting c s = accept_aside c s
    conclude_aside Underfed c s = reject_aside Underfed c s
    conclude_aside Overfed c s = reject_aside Overfed c s
    conclude_aside Both c s = reject_aside Both c s

  module _ (verdict : Place → Verdict) (room : Capacity) where
    replay_aside : (c : Place) (s : State) → replay verdict room c (pruning ps s) ≡ pruning_below ps (replay verdict room c s)
    unfolding replay visited replayed_once
    replay_aside c s = go (leb room.budget s.replays)
      where
        go : (b : Bool)
            → cond b (stopped BudgetSpent (pruning ps s)) (conclude room (verdict c) c (replayed_once (visited (pruning ps s))))
            ≡ pruning_below ps (cond b (stopped BudgetSpent s) (conclude room (verdict c) c (replayed_once (visited s))))
        go true = refl
        go false = conclude_aside room (verdict c) c (replayed_once (visited s))

    visit_aside : (c : Place) (s : State) → visit verdict room c (pruning ps s) ≡ pruning_below ps (visit verdict room c s)
    unfolding visit visited
    visit_aside c s = go (ruled s.rejected c)
      where
        go : (b : Bool)
            → cond b (proceed c (visited (pruning ps s))) (replay verdict room c (pruning ps s))
            ≡ pruning_below ps (cond b (proceed c (visited s)) (replay verdict room c s))
        go true = proceed_aside c (visited s)
        go false = replay_aside c s

    step_aside : (p : Progress) (c : Place) → NotBelow ps c → step verdict room (pruning_below ps p) c ≡ pruning_below ps (step verdict room p c)
    unfolding step is_pruned
    step_aside (stopped end s) c e = refl
    step_aside (going s) c e =
        rw (list_any-append (λ (ancestor : Place). descends ancestor c) s.pruned ps, e, or-false (is_pruned s c)) (go (is_pruned s c))
      where
        go : (b : Bool)
            → cond b (going (pruning ps s)) (visit verdict room c (pruning ps s)) ≡ pruning_below ps (cond b (going s) (visit verdict room c s))
        go true = refl
        go false = visit_aside c s

    -- a run over candidates that stand below none of the entries does the same without them
    pub run_aside : (p : Progress) {cs : List Place} → Each (NotBelow ps) cs
        → fold (step verdict room) (pruning_below ps p) cs ≡ pruning_below ps (fold (step verdict room) p cs)
    run_aside p each_nil = refl
    run_aside p (each_cons {x = c} {xs = cs} here later) =
        ap (λ (q : Progress). fold (step verdict room) q cs) (step_aside p c here) ∙ run_aside (step verdict room p c) later

module _ (verdict : Place → Verdict) (room : Capacity) where
  -- pruned candidates change nothing
  pub run_pruned : (s : State) {ds : List Place} → Each (λ (d : Place). is_pruned s d ≡ true) ds
      → fold (step verdict room) (going s) ds ≡ going s
  unfolding step
  run_pruned s each_nil = refl
  run_pruned s (each_cons here later) = rw here (run_pruned s later)
