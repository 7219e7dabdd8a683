-- `replay::judge_place` meets its contract: where its arguments pass, the text is a log, whose index
-- is made; and its answer has the number and the value of the refusal.
-- Assumes nothing.
use Rattle.std.proofs.Common.{◌≡◌, true, arith, rules}
use mathlib.Core.Bool.{◌&&◌}
use lib.Dec.{lit≤}
use Rattle.limits.specs.Settings.{bound_in_range, threshold_in_range}
use Rattle.replay_spec.proofs.laws.AnswerLaws.{judged_numbered}
use Rattle.replay.proofs.laws.Arguments.{bound_known, threshold_known, log_known, judge_steps}
use Rattle.replay.proofs.judge_place.Goals as goal

pub returns-in_err-unless-clause-numbered : goal.returns-in_err-unless-clause-numbered
returns-in_err-unless-clause-numbered c =
    judged_numbered c.args.activities c.args.threshold c.args.text.now c.args.place (grind (arith, judge_steps))

pub returns-in_err-check_place_and_text-clause-numbered : goal.returns-in_err-check_place_and_text-clause-numbered
returns-in_err-check_place_and_text-clause-numbered c =
    judged_numbered c.args.activities c.args.threshold c.args.text.now c.args.place (grind (arith, judge_steps))

pub index_log-log-requires : goal.index_log-log-requires
index_log-log-requires c =
    let a = c.args in
    let in_range : bound_in_range a.activities && threshold_in_range a.threshold ≡ true = search rules in
    (log_known _ _ a.place (bound_known a.activities a.text.now a.place a.threshold in_range) c.in_ok-check_place_and_text.field-0 (search rules), lit≤ tt)

pub judge-requires : goal.judge-requires
judge-requires c = threshold_known c.args.activities c.args.text.now c.args.place c.args.threshold (search rules)

pub returns-clause-numbered : goal.returns-clause-numbered
returns-clause-numbered c =
    judged_numbered c.args.activities c.args.threshold c.args.text.now c.args.place (grind (arith, judge_steps))
