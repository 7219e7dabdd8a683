-- The names of verdicts, as the table has them.
-- Assumes nothing.
use Rattle.std.specs.Prelude.{ℕ, List, codes}
use Rattle.replay_spec.specs.declared.Verdict.{Verdict}
use Rattle.replay_spec.specs.declared.Verdict.TheVariants.{Fitting, Underfed, Overfed, Both}

abbrev pub verdict_name : Verdict → List ℕ
verdict_name Fitting = codes "fitting"
verdict_name Underfed = codes "underfed"
verdict_name Overfed = codes "overfed"
verdict_name Both = codes "both"
