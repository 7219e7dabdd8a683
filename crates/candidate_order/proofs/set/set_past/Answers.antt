-- `candidate_order::set::set_past` meets its contract: each return is what the law of the set past
-- a given one says of its highest code.
-- Assumes nothing.
use native.Mathlib.Omega.{arith}
use mathlib.Core.Path.{sym, ◌∙◌}
use Rattle.candidate_order_spec.proofs.laws.Highest.{bit_value}
use Rattle.candidate_order_spec.proofs.laws.NextSet.{past_moved, past_none, past_fallen}
use Rattle.candidate_order_spec.proofs.laws.Succession.{past_by_lem}
use Rattle.candidate_order.proofs.set.set_past.Goals as goal

pub returns-then-code-from : goal.returns-then-code-from
returns-then-code-from c = λ most candidate.
    let a = c.args in
    let code = c.highest-code in
    rw (bit_value code.result (omega arith))
    (sym (past_by_lem a.activities most (omega arith) a.set candidate
    ∙ past_moved code.result a.set code.ensures a.activities (omega arith)))

pub returns-then-rest-eq0 : goal.returns-then-rest-eq0
returns-then-rest-eq0 c = λ most candidate.
    let a = c.args in
    let code = c.highest-code in
    let h = code.result in
    sym (past_by_lem a.activities most (omega arith) a.set candidate
    ∙ past_none h a.set code.ensures a.activities (omega arith) (omega (arith, bit_value h (omega arith))))

pub returns : goal.returns
returns c = λ most candidate.
    let a = c.args in
    let code = c.highest-code in
    let bit = bit_value code.result (omega arith) in
    let next = c.highest in
    rw (bit, bit_value next.result (omega arith))
    (sym (past_by_lem a.activities most (omega arith) a.set candidate
    ∙ past_fallen code.result a.set code.ensures a.activities next.result (omega arith) (rw bit at next.ensures)))
