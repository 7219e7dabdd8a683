-- `event_log::frame::trace_end` meets its contract: the trace has two digits for each pair before the
-- first that begins with a line feed. The chain is followed from its count back to the bytes.
-- Assumes nothing.
use Rattle.std.proofs.Common.{ap, ◌∙◌, rules, tests, arith}
use Rattle.std.specs.Slice.Iter.{iter_rest}
use Rattle.event_log.specs.Stepping.{pairs_length, trace_end}
use Rattle.event_log.proofs.laws.FrameSteps.{pairs_taken}
use Rattle.event_log.proofs.frame.trace_end.Goals as goal

pub returns : goal.returns
unfolding trace_end
returns c =
    let counted = c.count-pairs.ensures.runs in
    let taken = c.take_while.ensures.runs counted.0 counted.0.seen counted.1 in
    let firsts = c.step_by.ensures.runs taken.0 taken.0.seen taken.1 in
    let bytes = c.iter.ensures.runs firsts.0 firsts.0.seen in
    let rest = ap iter_rest firsts.1 ∙ c.iter.ensures.rest ∙ c.rest_from.ensures in
    omega (
      arith,
      counted.3,
      ap pairs_length rest,
      pairs_taken firsts.0 taken.0 counted.0 _ _ _ bytes firsts.2 taken.2 counted.2 (λ x b q k. search (rules, tests)),
    )
