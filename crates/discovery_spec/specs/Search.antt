-- The search over candidates, a definition for each sentence of document 01, "The walk". Its terms
-- for what is here: the shelf is the cache of rejected words, the list the found words, the
-- allowance the replay budget, offspring are descendants, and passed over is pruned.
-- Assumes nothing.
use Rattle.std.specs.Prelude.{ℕ, ◌+◌, Bool, true, false, cond, ltb, leb}
use Rattle.std.specs.Prelude.{List, [], ◌∷◌, ◌++◌, length}
use Rattle.std.specs.List.{list_any, fold}
use Rattle.places.specs.declared.Place.{Place}
use Rattle.places.specs.Places.{word}
use Rattle.places.specs.Candidates.{descends}
use Rattle.replay_spec.specs.declared.Verdict.{Verdict}
use Rattle.replay_spec.specs.declared.Verdict.TheVariants.{Fitting, Underfed, Overfed, Both}
use Rattle.discovery_spec.specs.declared.End.{End}
use Rattle.discovery_spec.specs.declared.End.TheVariants.{Completed, BudgetSpent, ListFull}
use Rattle.discovery_spec.specs.Rejected.{rejected_word, ruled, ruled_overfed}

-- what the caller gives a run: room for rejected words, room for found words, and the replay budget
pub record Capacity : Type 0 where
  pub rejected : ℕ
  pub found : ℕ
  pub budget : ℕ

-- the capacity of that many rejected words, found words and replays
abbrev pub holding : ℕ → ℕ → ℕ → Capacity
holding rejected found budget = record { rejected = rejected; found = found; budget = budget }

-- what a run has so far: the words it appended, what it counted, and the visited candidates whose
-- descendants it passes over
pub record State : Type 0 where
  pub rejected : List ℕ
  pub found : List ℕ
  pub replays : ℕ
  pub visits : ℕ
  pub pruned : List Place

-- the number of how a run ends: the last candidate had its turn, the budget was spent, or the list
-- was full
unfoldable pub end_number : End → ℕ
end_number Completed = 0
end_number BudgetSpent = 1
end_number ListFull = 2

-- it ended after the last candidate
unfoldable pub is_completed : End → Bool
is_completed Completed = true
is_completed BudgetSpent = false
is_completed ListFull = false

-- a run goes on, or it has stopped with an end
pub data Progress : Type 0 where
  going : State → Progress
  stopped : End → State → Progress

-- a fresh run: no words yet, nothing counted
unfoldable pub start : State
start = record { rejected = []; found = []; replays = 0; visits = 0; pruned = [] }

-- the state with one visit more, one replay more, one word more of either kind, one candidate more
-- to prune below
unfoldable pub visited : State → State
visited s = record { rejected = s.rejected; found = s.found; replays = s.replays; visits = s.visits + 1; pruned = s.pruned }

unfoldable pub replayed_once : State → State
replayed_once s = record { rejected = s.rejected; found = s.found; replays = s.replays + 1; visits = s.visits; pruned = s.pruned }

unfoldable pub with_found : ℕ → State → State
with_found w s = record { rejected = s.rejected; found = s.found ++ (w ∷ []); replays = s.replays; visits = s.visits; pruned = s.pruned }

unfoldable pub with_rejected : ℕ → State → State
with_rejected w s = record { rejected = s.rejected ++ (w ∷ []); found = s.found; replays = s.replays; visits = s.visits; pruned = s.pruned }

unfoldable pub with_pruned : Place → State → State
with_pruned c s = record { rejected = s.rejected; found = s.found; replays = s.replays; visits = s.visits; pruned = c ∷ s.pruned }

-- on from a visited candidate: where the cache now rules it overfed, its descendants are pruned
unfoldable pub proceed : Place → State → Progress
proceed c s = going (cond (ruled_overfed s.rejected c) (with_pruned c s) s)

-- c is to be passed over, as a descendant of a pruned candidate
unfoldable pub is_pruned : State → Place → Bool
is_pruned s c = list_any (λ (ancestor : Place). descends ancestor c) s.pruned

module _ (room : Capacity) where
  -- a fitting candidate is found; where the list is full the run stops with end 2, and the
  -- candidate stays counted
  unfoldable pub accept : Place → State → Progress
  accept c s = cond (ltb (length s.found) room.found) (proceed c (with_found (word c) s)) (stopped ListFull s)

  -- the word of one that does not fit goes into the cache, or is dropped where the cache is full
  unfoldable pub reject : Verdict → Place → State → Progress
  reject v c s = proceed c (cond (ltb (length s.rejected) room.rejected) (with_rejected (rejected_word c v) s) s)

  -- what follows a replay
  unfoldable pub conclude : Verdict → Place → State → Progress
  conclude Fitting c s = accept c s
  conclude Underfed c s = reject Underfed c s
  conclude Overfed c s = reject Overfed c s
  conclude Both c s = reject Both c s

module _ (verdict : Place → Verdict) (room : Capacity) where
  -- with the budget spent the run stops with end 1 before the candidate counts; else it is visited
  -- and replayed
  unfoldable pub replay : Place → State → Progress
  replay c s = cond (leb room.budget s.replays) (stopped BudgetSpent s) (conclude room (verdict c) c (replayed_once (visited s)))

  -- a candidate that the cache rules is visited and not replayed
  unfoldable pub visit : Place → State → Progress
  visit c s = cond (ruled s.rejected c) (proceed c (visited s)) (replay c s)

  -- one candidate in its turn
  unfoldable pub step : Progress → Place → Progress
  step (going s) c = cond (is_pruned s c) (going s) (visit c s)
  step (stopped end s) c = stopped end s

  -- the candidates one after the other, from a fresh run
  unfoldable pub search : List Place → Progress
  search cs = fold step (going start) cs

-- a run that no candidate stopped has end 0
unfoldable pub end_of : Progress → End
end_of (going s) = Completed
end_of (stopped end s) = end

-- what a run has, whether it goes on or not
unfoldable pub state_of : Progress → State
state_of (going s) = s
state_of (stopped end s) = s
