-- One name for all definitions of this layer and of those below it: a proof by computation says
-- `unfolding opened`.
-- Assumes nothing.
use Rattle.token_replay.specs.Tokens.{after_event, after_digit}
use Rattle.replay_spec.proofs.Opened.{opened as opened_replay_spec}

unfoldable pub opened : Unit {0}
unfolding after_event after_digit opened_replay_spec
opened = tt
