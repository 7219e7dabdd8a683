-- `case_output::progression` meets its contract: a run of words is the run of their numbers.
-- Assumes nothing.
use Rattle.std.proofs.Common.{ℕ, ◌==◌, ◌+◌, rules, ◌∙◌}
use Rattle.std.proofs.lemmas.Fn.{always_returns_same}
use Rattle.case_output.proofs.Progressions.{run_by_number}
use Rattle.case_output.proofs.progression.Goals as goal

pub returns-clause-run : goal.returns-clause-run
returns-clause-run g c number converts =
    let follows = λ (before word : ℕ). before + c.args.step == word in
    c.run_length.ensures.run (λ before word. follows (number before) (number word)) (always_returns_same _ _ _ (λ a r f' k. search rules))
    ∙ run_by_number number follows c.args.words.now
