-- One name for all definitions of this layer and of those below it: a proof by computation says
-- `unfolding opened`.
-- Assumes nothing.
use Rattle.event_log.specs.Stepping.{pairs_length, trace_end}
use Rattle.event_log.specs.FrameIndex.{frame_index, digits_start}
use Rattle.event_log.specs.Pass.{text_checked, lines_checked}
use Rattle.log_lines.proofs.Opened.{opened as opened_log_lines}

unfoldable pub opened : Unit {0}
unfolding pairs_length trace_end frame_index digits_start text_checked lines_checked opened_log_lines
opened = tt
