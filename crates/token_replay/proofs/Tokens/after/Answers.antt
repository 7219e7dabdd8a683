-- `token_replay::Tokens::after` meets its contract: its numbers fit 16 bits, so the bits read back
-- are the definition's integers.
-- Assumes nothing.
use borrow.Author.Rules.{rules}
use Rattle.token_replay.proofs.laws.EventBits.{event_bits}
use Rattle.token_replay.proofs.Tokens.after.Goals as goal

pub returns : goal.returns
returns c =
    event_bits c.args.sets c.args.self c.args.digit c.min-least.result c.requires (search rules) c.min-least.type_inv c.min-least.ensures.value
