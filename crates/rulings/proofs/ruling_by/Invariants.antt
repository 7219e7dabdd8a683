-- The words from the index on, with what is known of those before, give the ruling of all.
-- Assumes nothing.
use Rattle.std.proofs.Common.{drop, ◌≡◌}
use Rattle.rulings.specs.Rulings.{ruling_of}
use Rattle.rulings.proofs.laws.WordByWord.{ruling_from}
use Rattle.rulings.proofs.ruling_by.Given as goal

abbrev pub invariant-loop-word : goal.invariant-loop-word
invariant-loop-word l = ruling_from l.candidate l.underfed (drop l.word-index l.words) ≡ ruling_of l.words l.candidate
