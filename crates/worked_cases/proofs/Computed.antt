-- The worked cases of document 01 hold: each figure is computed from the definitions. M11's run
-- with a shelf of 15 or more is computed at 15 and at 16; at 16 it leaves room unused, so every
-- larger room gives the same run.
-- Assumes nothing.
use Prim.Native.Nat.{ℕ, ◌≤◌}
use native.Mathlib.Nat.{eq-or-lt_of_le}
use mathlib.Core.Path.{◌≡◌, refl, ap, sym, subst, ◌∙◌}
use mathlib.Core.Logic.{⊎_elim}
use lib.Dec.{lit<}
use Rattle.limits.specs.declared.Refusal.TheVariants.{MalformedFrame, UnknownActivity, MisplacedEndpoint, EmptyLog}
use Rattle.limits.specs.Refusals.{answered}
use Rattle.places.specs.Candidates.{candidates}
use Rattle.event_log_spec.specs.Lines.{frames_of}
use Rattle.replay_spec.specs.Judgement.{verdict}
use Rattle.discovery_spec.specs.declared.End.TheVariants.{Completed, BudgetSpent, ListFull}
use Rattle.discovery_spec.specs.Search.{Progress, holding, state_of}
use Rattle.discovery_spec.specs.Discovery.{run, run_refusal, summary, discovered_with}
use Rattle.discovery_spec.proofs.laws.LargerCache.{larger_cache}
use Rattle.reporter_spec.proofs.Opened.{opened}
use Rattle.worked_cases.specs.WorkedCases.{settings, single, LargeCache, WorkedCases}

-- the run of M11 with room for 16 or more rejected words
same_run : {n : ℕ} → 16 ≤ n → run settings single (holding n 4 36) ≡ run settings single (holding 16 4 36)
unfolding opened
same_run more = sym (larger_cache (verdict 0 (frames_of single)) 4 36 more (candidates settings) (lit< tt))

at_16 : LargeCache 16
unfolding opened
at_16 = record { finds = refl; how = Completed; answers = refl; ends = refl }

from_16 : {n : ℕ} → 16 ≤ n → LargeCache n
unfolding discovered_with
from_16 more =
    record {
      finds = ap (λ (p : Progress). (state_of p).found) (same_run more) ∙ at_16.finds;
      answers =
          ap (λ (p : Progress). answered (run_refusal settings single) (summary p)) (same_run more)
          ∙ at_16.answers;
      how = at_16.how;
      ends = at_16.ends;
    }

at_15 : LargeCache 15
unfolding opened
at_15 = record { finds = refl; how = Completed; answers = refl; ends = refl }

from_15 : (n : ℕ) → 15 ≤ n → LargeCache n
from_15 n more = ⊎_elim (λ e. subst LargeCache e at_15) from_16 (eq-or-lt_of_le more)

pub worked_cases_lem : WorkedCases
unfolding opened
worked_cases_lem =
    record {
      m1 = refl;
      m2 = refl;
      m3 = refl;
      m4 = refl;
      m5 = refl;
      m6 = refl;
      m7 = record { cases = refl; overfed = refl; at_419 = refl; at_420 = refl };
      m8 = (
        record { why = EmptyLog; refused = refl; numbered = refl; beside = refl },
        record { why = MalformedFrame 0; refused = refl; numbered = refl; beside = refl },
      );
      m9 = (
        record { why = MalformedFrame 0; refused = refl; numbered = refl; beside = refl },
        record { why = UnknownActivity 0; refused = refl; numbered = refl; beside = refl },
      );
      m10 = record { why = MisplacedEndpoint 0; refused = refl; numbered = refl; beside = refl };
      m11 =
          record {
            cache_15_or_more = from_15;
            cache_1 = record { finds = refl; how = Completed; answers = refl; ends = refl };
            cache_0 = record { finds = refl; how = Completed; answers = refl; ends = refl };
            cache_4_budget_4 = record { finds = refl; how = BudgetSpent; answers = refl; ends = refl };
            cache_15_list_0 = record { finds = refl; how = ListFull; answers = refl; ends = refl };
          };
      m12 = record { kept = refl; answers = refl };
      program = refl;
    }
