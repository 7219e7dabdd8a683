-- `candidate_order::set::set_after` meets its contract: each return is what the law of the set
-- after a given one says of its highest code and its size.
-- Assumes nothing.
use Prim.Native.Nat.{suc, ◌+◌, ◌≤◌}
use native.Mathlib.Omega.{arith}
use native.Mathlib.Numerals.{add-one}
use mathlib.Core.Path.{sym, ◌∙◌}
use mathlib.Core.Logic.{◌⊎◌, inl, inr}
use Rattle.places.specs.Sets.{size}
use Rattle.candidate_order_spec.proofs.laws.Highest.{bit_value}
use Rattle.candidate_order_spec.proofs.laws.NextSet.{after_added, after_past}
use Rattle.candidate_order_spec.proofs.laws.Succession.{candidate_bounds, after_by_lem, past_by_lem}
use Rattle.candidate_order.proofs.set.set_after.Goals as goal
use Rattle.candidate_order.proofs.set.set_after.Goals.{else-next-from-via-then-next-from+else-size_of-from, else-next-from-via-else-next-from}

pub highest-next-requires : goal.highest-next-requires
highest-next-requires c =
    let a = c.args in
    (candidate_bounds a.activities a.most c.requires.0 a.set c.requires.1).some

pub returns-then-size_of-from : goal.returns-then-size_of-from
returns-then-size_of-from c =
    let a = c.args in
    let next = c.highest-next in
    let h = next.result in
    rw (bit_value (h + 1) (omega arith), add-one h)
    (sym (after_by_lem a.activities a.most c.requires.0 a.set c.requires.1
    ∙ after_added h a.set next.ensures a.activities a.most (omega arith) (omega (arith, c.size_of.ensures))))

pub set_past-requires : goal.set_past-requires
set_past-requires c =
    let a = c.args in
    let bounds = candidate_bounds a.activities a.most c.requires.0 a.set c.requires.1 in
    (c.requires.0, bounds.some, bounds.small)

pub returns : goal.returns
returns c =
    let a = c.args in
    let next = c.highest-next in
    let h = next.result in
    let full : (a.activities ≤ suc h) ⊎ (a.most ≤ size a.set) =
    elim c.else-next-from.branch [
      | else-next-from-via-then-next-from+else-size_of-from w ↦ inr (omega (arith, w.size_of.ensures))
      | else-next-from-via-else-next-from w ↦ inl (omega arith)
    ] in
    c.set_past.ensures a.most c.requires.1
    ∙ past_by_lem a.activities a.most c.requires.0 a.set c.requires.1
    ∙ sym (after_past h a.set next.ensures a.activities a.most full)
    ∙ sym (after_by_lem a.activities a.most c.requires.0 a.set c.requires.1)
