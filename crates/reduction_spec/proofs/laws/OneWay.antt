-- That each word of a list stands for a place has one proof at most, as a ghost field asks of its
-- fact: each of its parts is an equation of truth values.
-- Assumes nothing.
use Rattle.std.specs.Prelude.{ℕ}
use mathlib.Core.Bool.{Bool-set}
use mathlib.Core.List.{List}
use Rattle.foundation.proofs.laws.Each.{each_prop}
use Rattle.reduction_spec.specs.Cover.{Listable}

pub listable_prop : (words : List ℕ) → IsProp (Listable words)
unfolding Listable
listable_prop words = each_prop (λ w. Bool-set _ _) words
