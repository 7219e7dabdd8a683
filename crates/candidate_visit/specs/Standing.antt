-- How a run under way stands in memory: its counts are those of its state, and its words are at the
-- front of its two buffers. What a function that carries a run on answers, and what it leaves
-- there. Document 01, "The walk".
-- Assumes nothing.
use Rattle.std.specs.Prelude.{ℕ, ◌≡◌, Bool, cond, List, [], ltb, length, take, Result, Ok, Err}
use Rattle.std.specs.Borrow.{MutBor}
use Rattle.foundation.specs.Buffers.{overwrite}
use Rattle.discovery_spec.specs.declared.End.{End}
use Rattle.discovery_spec.specs.Search.{Capacity, State, Progress, going, stopped, state_of}
use Rattle.discovery_spec.specs.Discovery.{capacity_of}
use Rattle.candidate_visit.specs.declared.Descendants.{Descendants}
use Rattle.candidate_visit.specs.declared.Descendants.TheVariants.{Searched, Pruned}
use Rattle.candidate_visit.specs.declared.RunState.{RunState}

-- the state that a run's counts and its two buffers stand for; the candidate whose turn it is
-- follows none that is pruned
unfoldable pub state_in : RunState → State
state_in w =
    record {
      rejected = take w.rejected_count w.rejected.now;
      found = take w.found_count w.found.now;
      replays = w.replays;
      visits = w.visits;
      pruned = [];
    }

-- the capacity that its two buffers give it, and a budget
abbrev pub room_in : RunState → ℕ → Capacity
room_in w budget = capacity_of w.rejected.now w.found.now budget

-- the buffer `after`, which is the buffer `before` later, holds so many words: these, and then its
-- old tail
pub record Holds (words : List ℕ) (before after : MutBor (List ℕ)) (count : ℕ) : Type 0 where
  pub count_is : count ≡ length words
  pub left : after.now ≡ overwrite words before.now
  pub same_length : length after.now ≡ length before.now
  pub same_buffer : after.ghost_name ≡ before.ghost_name

-- after the progress p a run has p's counts and words
pub record Leaves (p : Progress) (before after : RunState) : Type 0 where
  pub replays : after.replays ≡ (state_of p).replays
  pub visits : after.visits ≡ (state_of p).visits
  pub rejected : Holds (state_of p).rejected before.rejected after.rejected after.rejected_count
  pub found : Holds (state_of p).found before.found after.found after.found_count

-- progress that goes on is answered so, and progress that has stopped with its end
abbrev pub ended : {X : Type 0} → X → Progress → Result X End
ended x (going s) = Ok x
ended x (stopped end s) = Err end

-- a candidate was pruned below
unfoldable pub prunes : Progress → Bool
prunes p = ltb 0 (length (state_of p).pruned)

-- what a candidate's turn that came to the progress p answers, and what it leaves
pub record Turns (p : Progress) (before : RunState) (answer : Result Descendants End)
    (after : RunState) : Type 0 where
  pub answered : answer ≡ ended (cond (prunes p) Pruned Searched) p
  pub leaves : Leaves p before after
