-- The arguments of a call on a log and a place: the first check that gives a refusal decides, and
-- where they all pass, the text is a log under the activity bound, and so under the widest. What
-- replaying and judging answer, by what these checks gave.
-- Assumes nothing.
use Rattle.std.specs.Prelude.{None, Some, Ok, Err}
use Prim.Native.Nat.{ℕ, ◌≤◌}
use mathlib.Core.Path.{◌≡◌}
use mathlib.Core.Bool.{true, false, ◌&&◌, and-eq-true_iff}
use mathlib.Core.List.{List}
use borrow.Author.Tests.{leb-true}
use Rattle.limits.specs.declared.Refusal.{Refusal}
use Rattle.limits.specs.declared.Refusal.TheVariants.{InvalidSetting, InvalidPlace}
use Rattle.limits.specs.Refusals.{first_refusal}
use Rattle.limits.specs.Settings.{most_activities, bound_in_range, threshold_in_range, bound_fault, bound_and_threshold_fault}
use Rattle.places.specs.declared.Place.{Place}
use Rattle.places.specs.Places.{place_under, place_fault}
use Rattle.event_log_spec.specs.declared.LogSize.{LogSize}
use Rattle.event_log_spec.specs.Frames.{WrittenLog}
use Rattle.event_log_spec.specs.Lines.{frames_of, frame_at}
use Rattle.event_log_spec.specs.Checking.{log_refusal, log_refusal_with}
use Rattle.limits.proofs.laws.AnswerNumbers.{answer_refused, answer_accepted}
use Rattle.event_log_spec.proofs.laws.LogChecks.{log_passes}
use Rattle.event_log_spec.proofs.laws.Written.{text_written, bound_most}
use Rattle.event_log_spec.proofs.laws.WiderBound.{log_wider}
use Rattle.event_log.specs.FrameIndex.{activity_digits}
use Rattle.event_log.specs.Pass.{text_checked}
use Rattle.event_log.proofs.laws.FrameDigits.{DigitsOf, frame_digits}
use Rattle.event_log.proofs.laws.IndexedFrames.{first_found}
use Rattle.replay_spec.specs.Answers.{first_trace, balances, replayed, replayed_with, judgement, judged, judged_with}
use Rattle.replay.specs.Replaying.{place_and_text_checked}

module _ (A : ℕ) (text : List ℕ) (p : Place) where
  pub place_refused : place_under A p ≡ false → place_and_text_checked A text p ≡ Err (InvalidPlace 0)
  unfolding place_and_text_checked log_refusal_with first_refusal place_fault
  place_refused e = rw e

  pub text_decides : place_under A p ≡ true → place_and_text_checked A text p ≡ text_checked A text
  unfolding place_and_text_checked text_checked place_fault
  text_decides under = rw under

  -- where the settings pass, the place and the text decide
  argument_refused : (r : Refusal) → place_and_text_checked A text p ≡ Err r → log_refusal None (place_fault A 0 p) A text ≡ Some r
  unfolding place_and_text_checked
  argument_refused r = (answer_refused _ _ r).0

  arguments_pass : (size : LogSize) → place_and_text_checked A text p ≡ Ok size → log_refusal None (place_fault A 0 p) A text ≡ None
  unfolding place_and_text_checked
  arguments_pass size e = (answer_accepted _ _ size e).0

  -- the text is a log under the widest bound
  pub log_known : bound_in_range A ≡ true → (size : LogSize) → place_and_text_checked A text p ≡ Ok size
      → WrittenLog most_activities (frames_of text) text
  log_known bound size e =
      let passes = (log_passes A text None (place_fault A 0 p)).0 (arguments_pass size e) in
      log_wider (bound_most A bound) (text_written A text passes.some_byte passes.lines_pass)

  -- and of its first frame the activity digits are known
  pub first_known : bound_in_range A ≡ true → (size : LogSize) → place_and_text_checked A text p ≡ Ok size
      → DigitsOf (frame_at text 0) (activity_digits (frame_at text 0))
  first_known bound size e = frame_digits _ (first_found text (log_known bound size e)).under

  -- what replaying answers
  pub replay_setting : bound_in_range A ≡ false → replayed A text p ≡ Err InvalidSetting
  unfolding replayed_with bound_fault log_refusal_with first_refusal
  replay_setting e = rw e

  module _ (bound : bound_in_range A ≡ true) where
    pub replay_argument : (r : Refusal) → place_and_text_checked A text p ≡ Err r → replayed A text p ≡ Err r
    unfolding replayed_with bound_fault
    replay_argument r e = rw (bound, argument_refused r e)

    pub replay_passed : (size : LogSize) → place_and_text_checked A text p ≡ Ok size → replayed A text p ≡ Ok (balances p (first_trace text))
    unfolding replayed_with bound_fault
    replay_passed size e = rw (bound, arguments_pass size e)

  -- what judging answers
  module _ (T : ℕ) where
    pub judge_setting : bound_in_range A && threshold_in_range T ≡ false → judged A T text p ≡ Err InvalidSetting
    unfolding judged_with bound_and_threshold_fault log_refusal_with first_refusal
    judge_setting e = rw e

    module _ (in_range : bound_in_range A && threshold_in_range T ≡ true) where
      pub judge_argument : (r : Refusal) → place_and_text_checked A text p ≡ Err r → judged A T text p ≡ Err r
      unfolding judged_with bound_and_threshold_fault
      judge_argument r e = rw (in_range, argument_refused r e)

      pub judge_passed : (size : LogSize) → place_and_text_checked A text p ≡ Ok size → judged A T text p ≡ Ok (judgement T (frames_of text) p)
      unfolding judged_with bound_and_threshold_fault
      judge_passed size e = rw (in_range, arguments_pass size e)

      pub bound_known : bound_in_range A ≡ true
      bound_known = ((and-eq-true_iff (bound_in_range A) (threshold_in_range T)).0 in_range).0

      pub threshold_known : T ≤ 1000
      unfolding threshold_in_range
      threshold_known = leb-true _ _ ((and-eq-true_iff (bound_in_range A) (threshold_in_range T)).0 in_range).1

pub ruleset argument_steps = (place_refused, text_decides)

pub ruleset replay_steps = (replay_setting, replay_argument, replay_passed)

pub ruleset judge_steps = (judge_setting, judge_argument, judge_passed)
