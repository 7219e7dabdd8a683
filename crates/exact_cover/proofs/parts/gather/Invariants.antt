-- The words before the index that can be parts stand in front of the buffer.
-- Assumes nothing.
use Rattle.reduction_spec.specs.Cover.{usable}
use Rattle.exact_cover.proofs.laws.KeptWords.{KeptSo}
use Rattle.exact_cover.proofs.parts.gather.Given as goal

abbrev pub invariant-loop-word : goal.invariant-loop-word
invariant-loop-word l =
    KeptSo (usable l.rest.whole l.rest.left) l.rest.words.now l.initial.parts l.parts l.count l.word-index
