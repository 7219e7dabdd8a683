-- `case_notation::filling::fill` meets its contract: each element that the iterator gives is stored
-- behind those before it.
-- Assumes nothing.
use Rattle.std.proofs.Common.{ℕ, ◌≡◌, Some, length, subst, arith}
use Rattle.std.proofs.lemmas.List.{set-get_or}
use Rattle.case_notation.specs.Filling.{Filled}
use Rattle.case_notation.proofs.laws.Filling.{one_filled, all_filled}
use Rattle.case_notation.proofs.filling.fill.Goals as goal

pub returns-in-None : goal.returns-in-None
returns-in-None g c = λ elements y.
    simp set-get_or (all_filled (c.loop-at.invariant.filled elements y) c.in-None.ensures.steps (omega arith))

pub loop-at-preserved : goal.loop-at-preserved
loop-at-preserved g c =
    let goes = c.in-Some.ensures.goes.on c.loop-at.invariant.finite in
    record {
      can = goes.0;
      finite = goes.1;
      filled = λ elements y. one_filled (c.loop-at.invariant.filled elements y) c.in-Some.ensures.steps (omega arith);
    }

pub returns : goal.returns
returns g c = λ elements y.
    let end : c.loop-at.at ≡ length c.loop-at.buffer = omega arith in
    subst
    (λ (n : ℕ). Filled c.args.buffer.now elements c.loop-at.buffer (Some n))
    end
    (all_filled (c.loop-at.invariant.filled elements y) c.in-None-next.ensures.steps (omega arith))
