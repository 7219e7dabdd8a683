-- One name for all definitions of this layer and of those below it: a proof by computation says
-- `unfolding opened`.
-- Assumes nothing.
use Rattle.variants_spec.proofs.Opened.{opened as opened_variants}
use Rattle.variants.specs.Words.{frame_word, frame_words, variant_word, variant_in}
use Rattle.variants.specs.Gathering.{with_line, gathered}

unfoldable pub opened : Unit {0}
unfolding frame_word frame_words variant_word variant_in with_line gathered opened_variants
opened = tt
