-- A run carried on over some candidates, and where it goes on after each. Document 01, "The walk".
-- Assumes nothing.
use Rattle.std.specs.Prelude.{ℕ, ◌≤◌, ◌≡◌, List, Result}
use Rattle.std.specs.List.{fold}
use Rattle.limits.specs.declared.Settings.{Settings}
use Rattle.limits.specs.Settings.{most_activities}
use Rattle.places.specs.declared.Place.{Place}
use Rattle.places.specs.Succession.{set_after, set_past}
use Rattle.event_log_spec.specs.Lines.{frames_of}
use Rattle.replay_spec.specs.Judgement.{verdict}
use Rattle.discovery_spec.specs.declared.End.{End}
use Rattle.discovery_spec.specs.Search.{Progress, going, step}
use Rattle.candidate_visit.specs.declared.Descendants.{Descendants}
use Rattle.candidate_visit.specs.declared.Descendants.TheVariants.{Searched, Pruned}
use Rattle.candidate_visit.specs.declared.Search.{Search}
use Rattle.candidate_visit.specs.declared.RunState.{RunState}
use Rattle.candidate_visit.specs.Standing.{state_in, room_in, ended, Leaves}

-- settings that the checks of the call have passed, as far as the order of the candidates needs it
pub record Searchable (s : Settings) : Type 0 where
  pub some_activities : 1 ≤ s.activities
  pub few_activities : s.activities ≤ most_activities
  pub some_inputs : 1 ≤ s.inputs

-- the set whose turn comes after the set s of a list: the next one, or past the sets that extend s
abbrev pub next_set : Descendants → ℕ → List ℕ → ℕ
next_set Searched s list = set_after s list
next_set Pruned s list = set_past s list

-- the run carried on over some candidates, from the counts and buffers as they are
abbrev pub carried_on : Search → RunState → List Place → Progress
carried_on s w cs =
    fold
    (step (verdict s.settings.threshold (frames_of s.log.text.now)) (room_in w s.budget))
    (going (state_in w))
    cs

-- a run that goes on, or the end of one that has stopped
abbrev pub outcome : Progress → Result (Unit {0}) End
outcome p = ended tt p

-- what carrying a run on that came to the progress p answers, and what it leaves
pub record Carries (p : Progress) (before : RunState) (answer : Result (Unit {0}) End)
    (after : RunState) : Type 0 where
  pub answered : answer ≡ outcome p
  pub leaves : Leaves p before after
