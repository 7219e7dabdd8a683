-- The words before the index that are kept stand in front of the buffer, and the buffer that is lent
-- keeps its length.
-- Assumes nothing.
use Rattle.std.proofs.Common.{ℕ, ◌≡◌, length}
use mathlib.Core.Bool.{not}
use Rattle.reduction_spec.specs.Reduction.{redundant}
use Rattle.exact_cover.proofs.laws.KeptWords.{KeptSo}
use Rattle.reduction.proofs.keep_irredundant.Given as goal

abbrev pub invariant-loop-word : goal.invariant-loop-word
invariant-loop-word l =
    KeptSo (λ (w : ℕ). not (redundant l.words w)) l.words l.initial.kept l.kept l.count l.word-index × (length l.parts ≡ 1024)
