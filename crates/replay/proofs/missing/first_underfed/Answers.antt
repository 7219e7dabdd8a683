-- `replay::missing::first_underfed` meets its contract: every frame of a log has a case, so where
-- no case is underfed no line underfeeds the place.
-- Assumes nothing.
use native.Mathlib.Omega.{arith}
use mathlib.Core.Path.{sym, ap, ◌∙◌}
use Rattle.event_log_spec.specs.Lines.{frames_of}
use Rattle.foundation.proofs.laws.Each.{each_imply}
use Rattle.replay_spec.specs.Judgement.{underfed_cases}
use Rattle.replay_spec.proofs.laws.FirstMissing.{no_line_counted}
use Rattle.replay.proofs.laws.FrameByFrame.{counts_bounded}
use Rattle.replay.proofs.missing.first_underfed.Goals as goal

pub overflow_add-counts : goal.overflow_add-counts
overflow_add-counts c = record { fits = omega (arith, counts_bounded c.args.place _ c.args.log.now.indexed.log c.requires) }

pub returns-then-counts-eq0 : goal.returns-then-counts-eq0
unfolding underfed_cases
returns-then-counts-eq0 c =
    let log = c.args.log.now in
    let counted = each_imply (λ f under. under.counted) log.indexed.log.each in
    sym ((no_line_counted c.args.place (frames_of log.text.now) counted).1 (ap underfed_cases (sym c.requires) ∙ c.if-counts-eq0.true))
