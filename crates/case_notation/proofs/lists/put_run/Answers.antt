-- `case_notation::lists::put_run` meets its contract: each slot has the word of the run at its index.
-- Assumes nothing.
use Rattle.std.proofs.Common.{◌∙◌, ◌≡◌, ◌-◌, ◌+◌, ◌^◌, ap, arith, ℕ}
use mathlib.Core.Path.{ap₂}
use Rattle.std.proofs.lemmas.List.{length-take}
use Rattle.std.proofs.lemmas.List.FromFn.{length-range_with_len}
use Rattle.case_notation.specs.WordLists.{between, ends}
use Rattle.case_notation.proofs.laws.FilledParts.{in_room, same_elements}
use Rattle.case_notation.proofs.laws.RisingWords.{one_word, all_words}
use Rattle.case_notation.proofs.lists.put_run.Goals as goal

pub loop-at-preserved : goal.loop-at-preserved
loop-at-preserved c =
    one_word _ _ _ _ c.loop-at.invariant (omega arith)
    (omega (arith, c.min-room.ensures, c.saturating_sub-count.ensures, length-take c.min-room.result c.args.list.now))

pub returns : goal.returns
returns c =
    let first = c.into_inner-first.result.0 in
    let last = c.into_inner-first.result.1 in
    let count : c.saturating_sub-count.result ≡ last + 1 - first = c.saturating_sub-count.ensures in
    let part = length-take c.min-room.result c.args.list.now in
    let words = length-range_with_len first (last + 1 - first) in
    let front = all_words c.loop-at.slot-items first (last + 1 - first) c.loop-at.at c.min-room.result c.loop-at.invariant (omega arith) (omega (arith, c.min-room.ensures)) in
    let filled = in_room (between first last) (2 ^ 64) (omega arith) (omega (arith, count, words)) c.min-room.ensures front c.then_some.ensures in
    let is : (first, last) ≡ ends c.args.text.now = ap₂ (λ (a b : ℕ). (a, b)) c.into_inner-first.ensures.start c.into_inner-first.ensures.end ∙ c.run.ensures.from_to in
    same_elements (ap (λ (p : ℕ × ℕ). between p.0 p.1) is) filled
