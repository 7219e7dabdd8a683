-- `replay::replay_first_trace` meets its contract: where its arguments pass, the text is a log, and
-- its first frame's digits are handed on as a part of it; and its answer has the number and the
-- value of the refusal.
-- Assumes nothing.
use Rattle.std.proofs.Common.{sym, arith, rules}
use mir.Syntax.{w16}
use mir.ValLaws.{to_z-of_z}
use Rattle.replay_spec.specs.Answers.{first_trace_with}
use Rattle.replay_spec.proofs.laws.AnswerLaws.{replayed_numbered}
use Rattle.replay.proofs.laws.Arguments.{log_known, first_known, replay_passed, replay_steps}
use Rattle.replay.proofs.replay_first_trace.Goals as goal

pub returns-in_err-unless-clause-numbered : goal.returns-in_err-unless-clause-numbered
returns-in_err-unless-clause-numbered c =
    replayed_numbered c.args.activities c.args.text.now c.args.place (grind (arith, replay_steps))

pub returns-in_err-check_place_and_text-clause-numbered : goal.returns-in_err-check_place_and_text-clause-numbered
returns-in_err-check_place_and_text-clause-numbered c =
    replayed_numbered c.args.activities c.args.text.now c.args.place (grind (arith, replay_steps))

pub first_digits-digits-requires : goal.first_digits-digits-requires
first_digits-digits-requires c = log_known c.args.activities _ c.args.place (search rules) c.in_ok-check_place_and_text.field-0 (search rules)

pub replay_trace-tokens-requires : goal.replay_trace-tokens-requires
replay_trace-tokens-requires c =
    let digits = first_known c.args.activities c.args.text.now c.args.place (search rules) c.in_ok-check_place_and_text.field-0 (search rules) in
    rw c.first_digits-digits.ensures (digits.short, digits.all_digits)

pub first_missing-requires : goal.first_missing-requires
first_missing-requires c =
    let digits = first_known c.args.activities c.args.text.now c.args.place (search rules) c.in_ok-check_place_and_text.field-0 (search rules) in
    rw c.first_digits-digits.ensures (digits.short, digits.all_digits)

pub returns-clause-answer : goal.returns-clause-answer
unfolding first_trace_with
returns-clause-answer c =
    let a = c.args in
    let r = c.replay_trace-tokens.result in
    let size = c.in_ok-check_place_and_text.field-0 in
    let digits = first_known a.activities a.text.now a.place (search rules) size (search rules) in
    let passed = replay_passed a.activities a.text.now a.place (search rules) size (search rules) in
    rw (to_z-of_z w16 r.least (search rules), to_z-of_z w16 r.balance (search rules))
    (rw (
      c.replay_trace-tokens.ensures a.place c.from-sets.ensures,
      c.first_missing.ensures a.place c.from-sets.ensures,
      c.first_digits-digits.ensures,
      digits.trace,
    ) (sym passed))

pub returns-clause-numbered : goal.returns-clause-numbered
returns-clause-numbered c =
    replayed_numbered c.args.activities c.args.text.now c.args.place (returns-clause-answer c)
