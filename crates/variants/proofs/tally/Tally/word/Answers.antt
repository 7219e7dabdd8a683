-- `variants::tally::Tally::word` meets its contract: the machine's number of the sixteen counts,
-- with the line in place of its last 16 bits.
-- Assumes nothing.
use Rattle.std.proofs.Common.{rules, ℕ, ap, ◌∙◌, ◌+◌, ◌*◌, ◌/◌}
use Rattle.variants.specs.Words.{line_room}
use Rattle.variants.proofs.laws.FrameWords.{word_computed}
use Rattle.variants.proofs.tally.Tally.word.Goals as goal

pub returns : goal.returns
returns c = ap (λ (n : ℕ). n / line_room * line_room + c.args.line) c.from_le_bytes.ensures ∙ word_computed _ _ (search rules) (search rules)
