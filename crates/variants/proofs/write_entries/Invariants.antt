-- The entries of the words before the index stand in front of the buffer.
-- Assumes nothing.
use Rattle.foundation.proofs.laws.Blocks.{BlocksSo}
use Rattle.variants_spec.specs.Summary.{entry_words}
use Rattle.variants.specs.Words.{entry_in}
use Rattle.variants.proofs.write_entries.Given as goal

abbrev pub invariant-loop-word : goal.invariant-loop-word
invariant-loop-word l = BlocksSo entry_words entry_in l.words l.initial.entries l.entries l.at l.word-index
