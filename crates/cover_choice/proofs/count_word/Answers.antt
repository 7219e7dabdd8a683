-- `cover_choice::count_word` meets its contract: the highest activity of the rest is counted and
-- taken from the rest.
-- Assumes nothing.
use Rattle.cover_choice.proofs.laws.CountingWord.{held_bit, count_bit}
use Rattle.cover_choice.proofs.count_word.Goals as goal

pub loop-rest-preserved : goal.loop-rest-preserved
loop-rest-preserved c =
    let h = c.highest-activity.ensures in
    rw (held_bit _ h.known) (count_bit c.loop-rest.invariant _ h.known h.has)
