-- `replay::judgement::count_cases` meets its contract: from no frame on, one frame more adds its
-- cases to the count of its trace's verdict, and its end says where the next one's digits start. Its
-- digits are few enough to be replayed, and its cases can be added.
-- Assumes nothing.
use Prim.Native.Nat.{◌<◌}
use native.Mathlib.Omega.{arith}
use mathlib.Core.Path.{◌≡◌, sym, ap, ◌∙◌}
use lib.ListN.{length}
use Rattle.event_log_spec.specs.Lines.{frames_of, frame_at, frames_between}
use Rattle.event_log.specs.FrameIndex.{digits_start}
use Rattle.event_log.proofs.laws.IndexedFrames.{frame_under}
use Rattle.event_log.proofs.laws.FrameRanges.{frames_none, frames_more}
use Rattle.replay_spec.specs.Judgement.{case_counts}
use Rattle.replay.proofs.laws.FrameByFrame.{count_part, counts_none, counts_more}
use Rattle.event_log.proofs.laws.FrameDigits.{frame_digits}
use Rattle.replay.proofs.laws.FrameReplay.{cases_fit}
use Rattle.replay.proofs.judgement.count_cases.Goals as goal

pub loop-frame-init : goal.loop-frame-init
loop-frame-init c =
    let text = c.args.log.now.text.now in (
      omega arith,
      rw (frames_none text c.args.from) (sym (counts_none c.args.place)),
      λ onward. let first : c.min.result ≡ c.args.from = omega (arith, c.min.ensures, onward) in
          c.digits_start-start.ensures ∙ ap (digits_start text) first,
    )

pub replay_trace-tokens-requires : goal.replay_trace-tokens-requires
replay_trace-tokens-requires c =
    let digits = frame_digits _ (frame_under c.args.log.now.indexed.log c.loop-frame.frame (omega arith)) in
    rw c.digits.ensures (digits.short, digits.all_digits)

pub add_cases-requires : goal.add_cases-requires
add_cases-requires c =
    let log = c.args.log.now in
    let under = frame_under log.indexed.log c.loop-frame.frame (omega arith) in
    let so_far = case_counts c.args.place (frames_between c.args.from c.loop-frame.frame log.text.now) in
    rw (c.cases.ensures, c.loop-frame.invariant.1)
    (omega (
      arith,
      count_part so_far c.replay_trace-tokens.result,
      cases_fit c.args.place log.indexed.log c.args.from c.loop-frame.frame _ under,
    ))

pub loop-frame-preserved : goal.loop-frame-preserved
loop-frame-preserved c =
    let log = c.args.log.now in
    let text = log.text.now in
    let frame = c.loop-frame.frame in
    let less : frame < length (frames_of text) = omega arith in
    let under = frame_under log.indexed.log frame less in (
      omega arith,
      c.add_cases.ensures
          ∙ rw (
            c.replay_trace-tokens.ensures c.args.place c.from-sets.ensures,
            c.digits.ensures,
            (frame_digits _ under).trace,
            c.cases.ensures,
            c.loop-frame.invariant.1,
            frames_more text c.args.from frame c.loop-frame.auto.frame less,
          )
          (sym (counts_more c.args.place (frames_between c.args.from frame text) (frame_at text frame))),
      λ onward. c.next_start-start.ensures,
    )
