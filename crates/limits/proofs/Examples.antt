-- The refusals' table and the ranges of the settings, tried at their ends.
-- Assumes nothing.
use Rattle.std.specs.Prelude.{Option, None, Some}
use Prim.Native.Nat.{ℕ}
use mathlib.Core.Path.{◌≡◌, refl}
use mathlib.Core.List.{List, [], ◌∷◌, map}
use Rattle.limits.specs.declared.Refusal.{Refusal}
use Rattle.limits.specs.declared.Refusal.TheVariants.{InvalidSetting, MalformedFrame, UnknownActivity, MisplacedEndpoint, TooLarge, EmptyLog, InvalidPlace, BufferTooSmall}
use Rattle.limits.specs.declared.Settings.{Settings}
use Rattle.limits.specs.Refusals.{number, value, Checks, first_refusal}
use Rattle.limits.specs.Settings.{bound_fault, bound_and_threshold_fault, settings_fault}
use Rattle.limits.proofs.Opened.{opened}

-- one of each, in the table's order, at line or index 9
abbrev table : List Refusal
table =
    InvalidSetting
    ∷ MalformedFrame 9
    ∷ UnknownActivity 9
    ∷ MisplacedEndpoint 9
    ∷ TooLarge 9
    ∷ EmptyLog
    ∷ InvalidPlace 9
    ∷ BufferTooSmall
    ∷ []

abbrev set : ℕ → ℕ → ℕ → ℕ → Settings
set A mi mo T = record { activities = A; inputs = mi; outputs = mo; threshold = T }

-- the checks of a call, in their order
abbrev checks : (settings arguments places map room emptiness lines result_room : Option Refusal) → Checks
checks settings arguments places map room emptiness lines result_room =
    record {
      settings = settings;
      arguments = arguments;
      places = places;
      map = map;
      room = room;
      emptiness = emptiness;
      lines = lines;
      result_room = result_room;
    }

-- a refusal by each check from some on, told apart by their lines
abbrev at : ℕ → Option Refusal
at line = Some (TooLarge line)

pub record Examples : Type 0 where
  pub numbers : map number table ≡ 1 ∷ 2 ∷ 3 ∷ 4 ∷ 5 ∷ 6 ∷ 7 ∷ 8 ∷ []
  pub values : map value table ≡ 0 ∷ 9 ∷ 9 ∷ 9 ∷ 9 ∷ 0 ∷ 9 ∷ 0 ∷ []
  pub settings_first : first_refusal (checks (at 0) (at 1) (at 2) (at 3) (at 4) (at 5) (at 6) (at 7)) ≡ at 0
  pub arguments_next : first_refusal (checks None (at 1) (at 2) (at 3) (at 4) (at 5) (at 6) (at 7)) ≡ at 1
  pub places_before_room : first_refusal (checks None None (at 2) None (at 4) (at 5) (at 6) (at 7)) ≡ at 2
  pub map_before_room : first_refusal (checks None None None (at 3) (at 4) (at 5) (at 6) (at 7)) ≡ at 3
  pub room_before_log : first_refusal (checks None None None None (at 4) (at 5) (at 6) (at 7)) ≡ at 4
  pub emptiness_before_lines : first_refusal (checks None None None None None (at 5) (at 6) (at 7)) ≡ at 5
  pub lines_before_results : first_refusal (checks None None None None None None (at 6) (at 7)) ≡ at 6
  pub results_last : first_refusal (checks None None None None None None None (at 7)) ≡ at 7
  pub bounds : map bound_fault (2 ∷ 16 ∷ []) ≡ None ∷ None ∷ []
  pub bounds_refused : map bound_fault (1 ∷ 17 ∷ []) ≡ Some InvalidSetting ∷ Some InvalidSetting ∷ []
  pub thresholds : map (bound_and_threshold_fault 6) (0 ∷ 1000 ∷ 1001 ∷ []) ≡ None ∷ None ∷ Some InvalidSetting ∷ []
  pub sizes : map settings_fault (set 6 1 6 0 ∷ set 6 6 1 1000 ∷ []) ≡ None ∷ None ∷ []
  pub sizes_refused :
      map settings_fault (set 6 0 1 0 ∷ set 6 1 0 0 ∷ set 6 7 1 0 ∷ set 6 1 7 0 ∷ set 6 1 1 1001 ∷ set 1 1 1 0 ∷ [])
      ≡ map (λ (r : Refusal). Some r) (InvalidSetting ∷ InvalidSetting ∷ InvalidSetting ∷ InvalidSetting ∷ InvalidSetting ∷ InvalidSetting ∷ [])

pub examples : Examples
unfolding opened
examples =
    record {
      numbers = refl;
      values = refl;
      settings_first = refl;
      arguments_next = refl;
      places_before_room = refl;
      map_before_room = refl;
      room_before_log = refl;
      emptiness_before_lines = refl;
      lines_before_results = refl;
      results_last = refl;
      bounds = refl;
      bounds_refused = refl;
      thresholds = refl;
      sizes = refl;
      sizes_refused = refl;
    }
