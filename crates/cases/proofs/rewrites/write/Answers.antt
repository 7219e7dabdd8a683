-- `cases::rewrites::write` is safe: a list that is written has room in the buffer, so its bytes lie
-- within it.
-- Assumes nothing.
use Rattle.std.proofs.Common.{◌≡◌, ◌≤◌, ◌*◌, ℕ, List, length, refl, arith}
use Rattle.std.proofs.Math.ListN.{length-take}
use Rattle.std.proofs.lemmas.Grind.{common_steps}
use Rattle.std.specs.Prelude.{None, Some, Option, IfOk}
use borrow.Author.Tests.{ltb-false}
use Rattle.limits.specs.declared.Refusal.{Refusal}
use Rattle.limits.specs.Refusals.{answered}
use Rattle.places.proofs.laws.ListFaults.{has_room}
use Rattle.writer.specs.Writing.{line_bytes, writing_refusal, written}
use Rattle.writer.proofs.laws.PlaceLines.{length_text}
use Rattle.cases.proofs.rewrites.write.Goals as goal

answered_within : (o : Option Refusal) (count most : ℕ) → (o ≡ None → count ≤ most) → IfOk (answered o count) (λ n. n ≤ most)
answered_within None count most h = h refl
answered_within (Some r) count most h = tt

written_within : (words : List ℕ) (room most : ℕ) → room ≤ most → IfOk (written words room) (λ n. n ≤ most)
unfolding written writing_refusal
written_within words room most h =
    answered_within
    (writing_refusal words room)
    _
    most
    (λ e. omega (arith, h, length_text words, ltb-false room (line_bytes * length words) (has_room words _ e).1))

pub written_lines-requires : goal.written_lines-requires
written_lines-requires g c = rw c.write_places-answer.ensures.answer (written_within _ _ _ (grind (arith, length-take, common_steps)))
