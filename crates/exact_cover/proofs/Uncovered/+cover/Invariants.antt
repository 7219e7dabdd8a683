-- The search calls itself on what a word leaves: the measure is the number of activities that are
-- left, which falls when a word is taken away, three times, for the three functions in turn. The
-- invariant of the loop: the words before the index were tried in vain, and the buffer keeps its
-- length.
-- Assumes nothing.
use Rattle.std.proofs.Common.{◌+◌, ◌*◌, ◌≡◌, length}
use lib.Count.{ones}
use Rattle.exact_cover.proofs.laws.Trying.{Tried}
use Rattle.exact_cover.proofs.Uncovered.+cover.Given as goal

abbrev pub decreases-has_cover : goal.decreases-has_cover
decreases-has_cover l = 3 * ones l.self.rest.left + 2

abbrev pub decreases-is_covered : goal.decreases-is_covered
decreases-is_covered l = 3 * ones l.self.rest.left + 1

abbrev pub decreases-is_covered_after : goal.decreases-is_covered_after
decreases-is_covered_after l = 3 * ones l.self.rest.left

abbrev pub invariant-is_covered-loop-word : goal.invariant-is_covered-loop-word
invariant-is_covered-loop-word l =
    Tried l.self.rest.words.now l.self.rest.whole l.self.rest.left l.chosen l.word-index × (length l.parts ≡ 256)
