-- The settings and their ranges: document 01, "Settings and the log", first paragraph and number 1
-- of the table.
-- Assumes nothing.
use Rattle.std.specs.Prelude.{ℕ, Bool, not, ◌&&◌, leb, Option}
use Rattle.limits.specs.declared.Refusal.{Refusal}
use Rattle.limits.specs.declared.Refusal.TheVariants.{InvalidSetting}
use Rattle.limits.specs.declared.Settings.{Settings}
use Rattle.limits.specs.Refusals.{given}

-- the most activities that a set of 16 bits can name, and the bound for calls that take no settings
abbrev pub most_activities : ℕ
most_activities = 16

-- A, the activity bound
unfoldable pub bound_in_range : ℕ → Bool
bound_in_range A = leb 2 A && leb A most_activities

-- mi or mo, the most inputs or outputs
unfoldable pub size_in_range : ℕ → ℕ → Bool
size_in_range A m = leb 1 m && leb m A

-- T, the threshold in thousandths
unfoldable pub threshold_in_range : ℕ → Bool
threshold_in_range T = leb T 1000

-- number 1, of a call that takes A alone
unfoldable pub bound_fault : ℕ → Option Refusal
bound_fault A = given (not (bound_in_range A)) InvalidSetting

-- number 1, of a call that takes A and T
unfoldable pub bound_and_threshold_fault : ℕ → ℕ → Option Refusal
bound_and_threshold_fault A T = given (not (bound_in_range A && threshold_in_range T)) InvalidSetting

-- all four
unfoldable pub settings_in_range : Settings → Bool
settings_in_range s =
    bound_in_range s.activities
    && size_in_range s.activities s.inputs
    && size_in_range s.activities s.outputs
    && threshold_in_range s.threshold

-- number 1, of a call that takes all four
unfoldable pub settings_fault : Settings → Option Refusal
settings_fault s = given (not (settings_in_range s)) InvalidSetting
