-- `cases::summaries::summarize` is safe: the entries that are answered have room in what is lent,
-- so their words lie within the buffer.
-- Assumes nothing.
use Rattle.std.proofs.Common.{◌≡◌, ◌≤◌, ◌*◌, ℕ, List, Ok, refl, arith}
use Rattle.std.proofs.Math.ListN.{length-take}
use Rattle.std.proofs.lemmas.Grind.{common_steps}
use Rattle.std.specs.Prelude.{Result, Err, IfOk}
use Rattle.limits.specs.declared.Refusal.{Refusal}
use Rattle.variants_spec.specs.Summary.{entry_words, summarized}
use Rattle.variants_spec.proofs.laws.Answering.{entries_fit}
use Rattle.cases.proofs.summaries.summarize.Goals as goal

within : (A : ℕ) (text : List ℕ) (words most : ℕ) → words ≤ most → IfOk (summarized A text words) (λ count. entry_words * count ≤ most)
within A text words most h = go (summarized A text words) refl
  where
    go : (answer : Result ℕ Refusal) → summarized A text words ≡ answer → IfOk answer (λ count. entry_words * count ≤ most)
    go (Ok count) e = omega (arith, h, entries_fit A text words count e)
    go (Err refusal) e = tt

pub summary_lines-requires : goal.summary_lines-requires
summary_lines-requires g c = rw c.summarize-answer.ensures.answer (within _ _ _ _ (grind (arith, length-take, common_steps)))
