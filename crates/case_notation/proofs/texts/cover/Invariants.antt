-- What is covered has copies of the bytes, as many times as cover the buffer, and these go on behind
-- it as they begin.
-- Assumes nothing.
use Rattle.std.proofs.Common.{ℕ, ◌-◌, ◌*◌, ◌<◌, ◌≤◌, length, replicate}
use Rattle.case_notation.specs.Texts.{bytes_meant}
use Rattle.case_notation.proofs.laws.Repeats.{Repeats}
use Rattle.case_notation.proofs.texts.cover.Given as goal

abbrev pub invariant-loop-covered : goal.invariant-loop-covered
invariant-loop-covered l =
    record {
      some : 0 < length l.buffer → 0 < l.covered;
      within : l.covered ≤ length l.buffer;
      copies : (times : ℕ) → length l.buffer ≤ times * length l.bytes → Repeats (bytes_meant (replicate times l.bytes)) l.buffer l.covered;
    }

abbrev pub decreases-loop-covered : goal.decreases-loop-covered
decreases-loop-covered l = length l.buffer - l.covered
