-- The claim about two runs on a log under settings that are not refused. The settings are in range,
-- so the candidates are listed as stated and their words tell them apart; the log is written in
-- frames of known activities, so verdicts over it are monotone; and what holds of any two searches
-- over a list of candidates by a monotone verdict holds of these.
-- Assumes nothing.
use Rattle.std.specs.Prelude.{None}
use Prim.Native.Nat.{ℕ, ◌≤◌}
use mathlib.Core.Path.{◌≡◌, refl}
use mathlib.Core.Logic.Iff
use mathlib.Core.Bool.{Bool, true, false}
use mathlib.Core.List.{List}
use Rattle.foundation.specs.Lists.{Each}
use Rattle.foundation.proofs.laws.Each.{each_filter}
use Rattle.foundation.proofs.laws.Members.{member_filter}
use Rattle.foundation.proofs.laws.Ordered.{ordered_filter}
use Rattle.limits.specs.declared.Settings.{Settings}
use Rattle.limits.specs.Settings.{most_activities}
use Rattle.places.specs.Candidates.{candidates}
use Rattle.candidate_order_spec.proofs.laws.CandidateOrder.{candidate_listed, candidates_ascending, candidates_distinct, candidates_bounded}
use Rattle.places.proofs.laws.Words.{Storable, words_back}
use Rattle.event_log_spec.specs.Frames.{Frame, WrittenLog}
use Rattle.event_log_spec.specs.Lines.{frames_of}
use Rattle.replay_spec.specs.Judgement.{verdict_where, verdict_of, verdict}
use Rattle.replay_spec.proofs.laws.Monotone.{log_monotone}
use Rattle.discovery_spec.specs.Search.{Capacity}
use Rattle.discovery_spec.specs.Discovery.{run_with, run_refusal}
use Rattle.discovery_spec.specs.TwoRuns.{fits, fitting_candidates, found_by, Completes, FoundAll, AllFitting, AtLeast, BothComplete, TwoRuns}
use Rattle.discovery_spec.proofs.laws.Rulings.{is_underfed, is_overfed}
use Rattle.discovery_spec.proofs.laws.Soundness.{MonotoneVerdict}
use Rattle.discovery_spec.proofs.laws.CallChecks.{not_refused}
use Rattle.discovery_spec.proofs.laws.OneRun.{found_all}
use Rattle.discovery_spec.proofs.laws.RunCounts.{ample_completes}
use Rattle.discovery_spec.proofs.laws.TwoPhases.{first_begins, second_completes}

where_underfed : (u o : Bool) → is_underfed (verdict_where u o) ≡ u
where_underfed true true = refl
where_underfed true false = refl
where_underfed false true = refl
where_underfed false false = refl

where_overfed : (u o : Bool) → is_overfed (verdict_where u o) ≡ o
where_overfed true true = refl
where_overfed true false = refl
where_overfed false true = refl
where_overfed false false = refl

-- the verdicts over a log are monotone
log_verdicts : (A T : ℕ) (frames : List Frame) (text : List ℕ) → A ≤ most_activities → WrittenLog A frames text
    → MonotoneVerdict (verdict T frames)
unfolding verdict verdict_of
log_verdicts A T frames text bound log =
    record {
      underfed = λ p q light e. rw where_underfed ((log_monotone A p q frames text bound log light).underfed_at T (rw where_underfed at e));
      overfed = λ p q light e. rw where_overfed ((log_monotone A p q frames text bound log light).overfed_at T (rw where_overfed at e));
    }

module _ (s : Settings) (text : List ℕ) where
  -- what the laws of searches need of the candidates and the verdicts
  record Suitable : Type 0 where
    few : s.activities ≤ most_activities
    monotone : MonotoneVerdict (verdict s.threshold (frames_of text))

  suitable : run_refusal s text ≡ None → Suitable
  suitable e =
      let known = not_refused s text e in
      let few = known.settings.few_activities in
      record { few = few; monotone = log_verdicts s.activities s.threshold (frames_of text) text few known.log }

  module _ (a : Suitable) where
    storable : Each Storable (candidates s)
    storable = candidates_bounded s a.few

    fitting_listed : AllFitting s text
    unfolding fitting_candidates
    fitting_listed =
        record {
          exactly =
              λ p.
              Iff.trans
              (member_filter (fits s text) (candidates s))
              (Iff.and (candidate_listed s a.few p) Iff.rfl);
          once = ordered_filter (fits s text) (candidates_distinct s a.few);
          in_order = ordered_filter (fits s text) (candidates_ascending s a.few);
          by_words = words_back (each_filter (fits s text) storable);
        }

    completed_all : (room : Capacity) → Completes s text room → FoundAll s text room
    unfolding Completes FoundAll found_by fitting_candidates fits run_with
    completed_all room = found_all (verdict s.threshold (frames_of text)) a.monotone room storable

    module _ (first second : Capacity) (more : AtLeast first second) where
      both_complete : Completes s text first → BothComplete s text first second
      unfolding Completes run_with
      both_complete complete =
          let too = second_completes (verdict s.threshold (frames_of text)) a.monotone first second more storable complete in
          record {
            completes = too.completes;
            replays = too.replays;
            visits = too.visits;
            found_by_first = completed_all first complete;
            found_by_second = completed_all second too.completes;
          }

      claim : TwoRuns s text first second
      unfolding Completes found_by fitting_candidates fits run_with
      claim =
          record {
            beginning = first_begins (verdict s.threshold (frames_of text)) a.monotone first second more storable;
            ample = λ room. ample_completes (verdict s.threshold (frames_of text)) room (candidates s);
            complete = both_complete;
            all_fitting = fitting_listed;
          }

-- of any two runs that are not refused, the second with at least the room and the budget of the
-- first
pub two_runs : (s : Settings) (text : List ℕ) (first second : Capacity) → run_refusal s text ≡ None → AtLeast first second
    → TwoRuns s text first second
two_runs s text first second pass more = claim s text (suitable s text pass) first second more
