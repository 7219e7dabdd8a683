-- `event_log::check_log` meets its contract: its answer has the number and the value of the refusal.
-- Assumes nothing.
use Rattle.std.proofs.Common.{arith}
use Rattle.event_log_spec.proofs.laws.LogChecks.{checked_numbered}
use Rattle.event_log.proofs.laws.LogPass.{log_steps}
use Rattle.event_log.proofs.check_log.Goals as goal

pub returns-in_err-unless-clause-numbered : goal.returns-in_err-unless-clause-numbered
returns-in_err-unless-clause-numbered c = checked_numbered c.args.activities c.args.text.now _ (grind (arith, log_steps))

pub returns-clause-numbered : goal.returns-clause-numbered
returns-clause-numbered c = checked_numbered c.args.activities c.args.text.now _ (grind (arith, log_steps))
