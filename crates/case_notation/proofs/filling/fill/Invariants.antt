-- Whatever the iterator gives, as much of it as the index says stands at the front of the buffer.
-- Assumes nothing.
use Rattle.std.proofs.Common.{List}
use Rattle.std.specs.Iterator.{IsFinite}
use Rattle.std.proofs.lemmas.Iterator.{YieldsList}
use Rattle.case_notation.proofs.laws.Filling.{FilledTo}
use Rattle.case_notation.proofs.filling.fill.Given as goal

abbrev pub invariant-loop-at : goal.invariant-loop-at
invariant-loop-at g l =
    record {
      can : g.I.Iterator.can_next l.items;
      finite : IsFinite (g.I.Iterator.remaining l.items);
      filled :
          (elements : List g.row.T.Denot) → YieldsList g.I.Iterator.next_gives (λ x. x) l.initial.items elements
          → FilledTo g.I.Iterator.next_gives l.initial.buffer elements l.items l.buffer l.at;
    }
