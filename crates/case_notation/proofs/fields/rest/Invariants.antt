-- What follows the words left to pass is what follows all of them.
-- Assumes nothing.
use Rattle.std.proofs.Common.{◌≡◌, ◌-◌}
use Rattle.case_notation.specs.Fields.{rest_after}
use Rattle.case_notation.proofs.fields.rest.Given as goal

abbrev pub invariant-loop : goal.invariant-loop
invariant-loop l = rest_after (l.words - l.counter) l.rest ≡ rest_after l.words l.line
