-- The ends of a run, told apart by the test whether it completed.
-- Assumes nothing.
use mathlib.Core.Path.{◌≡◌, refl}
use mathlib.Core.Bool.{true}
use Rattle.discovery_spec.specs.declared.End.{End}
use Rattle.discovery_spec.specs.declared.End.TheVariants.{Completed, BudgetSpent, ListFull}
use Rattle.discovery_spec.specs.Search.{is_completed}

pub completed_end : (e : End) → is_completed e ≡ true → e ≡ Completed
unfolding is_completed
completed_end Completed h = refl
completed_end BudgetSpent h = cc
completed_end ListFull h = cc

pub end_completed : (e : End) → e ≡ Completed → is_completed e ≡ true
unfolding is_completed
end_completed e h = rw h refl
