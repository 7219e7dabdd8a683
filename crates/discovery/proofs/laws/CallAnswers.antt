-- What the search call answers and leaves: after a refusal the buffers are as they were, and else a
-- fresh run over all candidates, from the first on, gives the answer and the words. There are fewer
-- than 2 to the power 32 candidates, so every count fits.
-- Assumes nothing.
use Rattle.std.specs.Prelude.{Result, unwrap_or, None, Some, Ok, Err}
use Rattle.std.specs.Result.{result_err}
use Rattle.std.specs.Borrow.{MutBor}
use Prim.Native.Nat.{ℕ, ◌≤◌}
use native.Mathlib.Omega.{arith}
use mathlib.Core.Path.{◌≡◌, refl, ap, ◌∙◌}
use mathlib.Core.List.{List}
use lib.ListN.{length}
use Rattle.std.specs.List.{fold}
use Rattle.limits.specs.declared.Refusal.{Refusal}
use Rattle.limits.specs.declared.Settings.{Settings}
use Rattle.limits.specs.Refusals.{Numbered, answer_number, answer_value}
use Rattle.limits.proofs.laws.AnswerNumbers.{numbered}
use Rattle.limits.specs.Settings.{most_activities}
use Rattle.limits.proofs.laws.SettingsRanges.{InRange}
use Rattle.places.specs.Places.{place}
use Rattle.places.specs.Candidates.{candidates, sets}
use Rattle.places.specs.Succession.{candidates_from}
use Rattle.candidate_order_spec.proofs.laws.CandidateOrder.{fewer_candidates}
use Rattle.candidate_order_spec.proofs.laws.Succession.{from_first}
use Rattle.event_log_spec.specs.Frames.{WrittenLog}
use Rattle.event_log_spec.specs.Lines.{frames_of}
use Rattle.event_log_spec.proofs.laws.WiderBound.{log_wider}
use Rattle.replay_spec.specs.Judgement.{verdict}
use Rattle.discovery_spec.specs.declared.End.{End}
use Rattle.discovery_spec.specs.declared.End.TheVariants.{Completed}
use Rattle.discovery_spec.specs.declared.Run.{Run}
use Rattle.discovery_spec.specs.Search.{Capacity, Progress, going, stopped, start, step, search, end_of}
use Rattle.discovery_spec.specs.Discovery.{run, run_with, run_refusal, discovered, discovered_with, summary, replays_in, capacity_of, found_after, found_after_with, rejected_after, rejected_after_with}
use Rattle.discovery_spec.proofs.laws.AnswerLaws.{replays_within}
use Rattle.discovery_spec.proofs.laws.CallChecks.{NotRefused}
use Rattle.candidate_visit.specs.declared.RunState.{RunState}
use Rattle.candidate_visit.specs.Standing.{state_in, room_in}
use Rattle.discovery.specs.Searching.{outcome, Carries}
use Rattle.discovery.proofs.laws.OutputsLeft.{rows_whole}

-- the text is a log under the widest bound
pub log_known : (s : Settings) (text : List ℕ) → NotRefused s text → WrittenLog most_activities (frames_of text) text
log_known s text known = log_wider known.settings.few_activities known.log

module _ (s : Settings) (ranges : InRange s) where
  -- from the first candidate on there are all
  pub from_the_first : candidates_from s (place 1 1) ≡ candidates s
  unfolding candidates_from candidates
  from_the_first =
      rw (
        from_first s.activities s.inputs (omega (arith, ranges.some_activities)) ranges.some_inputs,
        from_first s.activities s.outputs (omega (arith, ranges.some_activities)) ranges.some_outputs,
      )
      (rows_whole (sets s.activities s.inputs) (sets s.activities s.outputs))

  pub all_countable : length (candidates_from s (place 1 1)) ≤ 4294836225
  all_countable = omega (arith, ap length from_the_first, fewer_candidates s ranges.few_activities)

-- a run in these buffers that has nothing counted and nothing found
abbrev pub fresh : (rejected found : MutBor (List ℕ)) → 0 ≤ length rejected.now → 0 ≤ length found.now → RunState
fresh rejected found a b =
    record {
      rejected = rejected;
      found = found;
      rejected_count = 0;
      found_count = 0;
      replays = 0;
      visits = 0;
      rejected_there = a;
      found_there = b;
    }

-- the end that an answer of the search stands for
end_answered : (p : Progress) → unwrap_or (result_err (outcome p)) Completed ≡ end_of p
unfolding end_of
end_answered (going s) = refl
end_answered (stopped end s) = refl

module _ (s : Settings) (text : List ℕ) (rejected found : List ℕ) (budget : ℕ) where
  abbrev room : Capacity
  room = capacity_of rejected found budget

  -- what the contract of the call says of its answer and of the buffers
  pub record Answers (d : Result Run Refusal) (rejected_left found_left : List ℕ) : Type 0 where
    pub answer : d ≡ discovered s text room
    pub cache : rejected_left ≡ rejected_after s text rejected found budget
    pub list : found_left ≡ found_after s text rejected found budget
    pub numbered : Numbered (run_refusal s text) (answer_number d) (answer_value d)
    pub within : replays_in d ≤ budget

  answers : {d : Result Run Refusal} {rejected_left found_left : List ℕ} → d ≡ discovered s text room
      → rejected_left ≡ rejected_after s text rejected found budget
      → found_left ≡ found_after s text rejected found budget
      → Answers d rejected_left found_left
  unfolding capacity_of discovered_with
  answers {d} e cache list =
      record {
        answer = e;
        cache = cache;
        list = list;
        numbered = numbered _ _ e;
        within = replays_within s text room d e;
      }

  -- of a call that is refused
  pub refused_answers : {d : Result Run Refusal} (r : Refusal) → d ≡ Err r → run_refusal s text ≡ Some r
      → Answers d rejected found
  unfolding discovered_with rejected_after_with found_after_with
  refused_answers r given e = answers (rw (given, e)) (rw e) (rw e)

  -- of one that is not
  module _ (passes : run_refusal s text ≡ None) (ranges : InRange s) where
    abbrev made : Progress
    made = run s text room

    module _
        (lent_rejected lent_found : MutBor (List ℕ))
        (rejected_same : lent_rejected.now ≡ rejected)
        (found_same : lent_found.now ≡ found)
        (a : 0 ≤ length lent_rejected.now)
        (b : 0 ≤ length lent_found.now)
      where
        abbrev started : RunState
        started = fresh lent_rejected lent_found a b

        abbrev carried : Progress
        carried =
            fold
            (step (verdict s.threshold (frames_of text)) (room_in started budget))
            (going (state_in started))
            (candidates_from s (place 1 1))

        same_run : carried ≡ made
        unfolding run_with search state_in start
        same_run = rw (from_the_first s ranges, rejected_same, found_same)

        pub run_answers : {answer : Result (Unit {0}) End} {after : RunState} → Carries carried started answer after → {end : End}
            → end ≡ unwrap_or (result_err answer) Completed
            → Answers
            (
            Ok (
            record {
              end = end;
              found = after.found_count;
              rejected = after.rejected_count;
              replays = after.replays;
              visits = after.visits;
            }
            )
            )
            after.rejected.now
            after.found.now
        unfolding discovered_with rejected_after_with found_after_with summary
        run_answers c ended_so =
            let all = rw same_run at c in
            let left = all.leaves in
            answers
            (
            rw (
              ended_so,
              all.answered,
              end_answered made,
              left.found.count_is,
              left.rejected.count_is,
              left.replays,
              left.visits,
              passes,
            )
            )
            (rw passes (left.rejected.left ∙ rw rejected_same))
            (rw passes (left.found.left ∙ rw found_same))
