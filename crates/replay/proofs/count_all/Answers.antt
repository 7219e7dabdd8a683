-- `replay::count_all` meets its contract: from line 0 on, as many frames as the log has are all of
-- them.
-- Assumes nothing.
use mathlib.Core.Path.{ap, ◌∙◌}
use Rattle.event_log.proofs.laws.FrameRanges.{frames_all}
use Rattle.replay_spec.specs.Judgement.{case_counts}
use Rattle.replay.proofs.count_all.Goals as goal

pub returns : goal.returns
returns c = c.count_cases.ensures ∙ rw c.len.ensures (ap (case_counts c.args.place) (frames_all c.args.log.now.text.now))
