-- One name for all definitions of this layer and of those below it: a proof by computation says
-- `unfolding opened`.
-- Assumes nothing.
use Rattle.replay.specs.Replaying.{place_and_text_checked, kind_of, with_cases}
use Rattle.event_log.proofs.Opened.{opened as opened_event_log}
use Rattle.token_replay.proofs.Opened.{opened as opened_token_replay}

unfoldable pub opened : Unit {0}
unfolding place_and_text_checked kind_of with_cases opened_event_log opened_token_replay
opened = tt
