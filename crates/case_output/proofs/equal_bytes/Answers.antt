-- `case_output::equal_bytes` meets its contract: its closure answers whether two bytes are equal.
-- Assumes nothing.
use Rattle.std.proofs.Common.{◌==◌, ◌+◌, rules}
use Rattle.std.proofs.lemmas.Fn.{always_returns_same}
use Rattle.case_output.proofs.equal_bytes.Goals as goal

pub returns-clause-run : goal.returns-clause-run
returns-clause-run c =
    c.run_length.ensures.run (λ before byte. before + 0 == byte) (always_returns_same _ _ _ (λ a r f' k. search rules))
