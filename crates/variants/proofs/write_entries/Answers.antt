-- `variants::write_entries` meets its contract: entries are blocks of one length, and each is put
-- behind those before it.
-- Assumes nothing.
use mathlib.Core.Path.{refl, ◌∙◌}
use Rattle.foundation.proofs.laws.Each.{each_at}
use Rattle.foundation.proofs.laws.Blocks.{none_written, next_written, all_written}
use Rattle.variants_spec.specs.Summary.{entry_words}
use Rattle.variants.specs.Words.{entry_in}
use Rattle.variants.proofs.write_entries.Goals as goal

pub loop-word-init : goal.loop-word-init
loop-word-init c = none_written entry_words entry_in (λ word. refl)

pub entry_in-requires : goal.entry_in-requires
entry_in-requires c = each_at c.loop-word.word-index 0 c.requires.1 c.loop-word-test.true

pub loop-word-preserved : goal.loop-word-preserved
loop-word-preserved c =
    next_written entry_words entry_in (λ word. refl) c.loop-word.invariant c.loop-word-test.true (c.copy_from_slice.ensures.after ∙ c.entry_in.ensures)

pub returns : goal.returns
returns c = (all_written entry_words entry_in (λ word. refl) c.loop-word.invariant c.loop-word-test.false).1
