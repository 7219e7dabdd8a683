-- The settings that a call takes as four numbers: A, mi, mo and T of document 01, in this order.
-- Assumes nothing.
use Rattle.std.specs.Prelude.{ℕ}
use Rattle.limits.specs.declared.Settings.{Settings}

abbrev pub settings_of : ℕ → ℕ → ℕ → ℕ → Settings
settings_of activities inputs outputs threshold =
    record { activities = activities; inputs = inputs; outputs = outputs; threshold = threshold }
