-- `sorting::sort_words` meets its contract: the library's sort moves the words and leaves them in
-- ascending order, and there is one such list of them.
-- Assumes nothing.
use Rattle.sorting.proofs.laws.Ascending.{library_ascends, library_sorted}
use Rattle.sorting.proofs.sort_words.Goals as goal

pub returns-clause-sorted : goal.returns-clause-sorted
returns-clause-sorted c = library_sorted _ _ c.sort_unstable.ensures.permutation c.sort_unstable.ensures.sorted

pub returns-clause-ascends : goal.returns-clause-ascends
returns-clause-ascends c = library_ascends _ c.sort_unstable.ensures.sorted
