-- `case_notation::texts::put_piece` meets its contract: the room of the copies is covered with them.
-- Assumes nothing.
use Rattle.std.proofs.Common.{ℕ, ◌≡◌, ◌∙◌, ◌-◌, ◌^◌, ap, arith, take, replicate}
use Rattle.std.proofs.lemmas.List.{length-take}
use Rattle.case_notation.specs.Texts.{bytes_meant}
use Rattle.case_notation.proofs.laws.FilledParts.{in_room, same_elements}
use Rattle.case_notation.proofs.laws.Repeats.{length-copies}
use Rattle.case_notation.proofs.texts.put_piece.Goals as goal

pub returns : goal.returns
returns c =
    let times = c.copies-times.result.1 in
    let bytes = c.copies-times.result.0.now in
    let many = length-copies bytes times in
    let room = c.min-room.ensures in
    let all = c.saturating_mul-count.ensures in
    let part = length-take c.min-room.result c.args.buffer.now in
    let front : c.cover.new.buffer ≡ take c.min-room.result (bytes_meant (replicate times bytes)) =
    c.cover.ensures times (omega arith) ∙ ap (λ (n : ℕ). take n (bytes_meant (replicate times bytes))) (omega arith) in
    let filled = in_room (bytes_meant (replicate times bytes)) (2 ^ 64 - 1) (omega arith) (omega (arith, all, many)) room front c.then_some.ensures in
    same_elements (ap bytes_meant c.copies-times.ensures) filled
