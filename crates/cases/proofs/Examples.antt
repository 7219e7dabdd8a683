-- The calls by name, tried on a name, a longer and a shorter one; places and settings, tried at the
-- edges of their sizes.
-- Assumes nothing.
use Rattle.std.specs.Prelude.{Some, None}
use mathlib.Core.Path.{◌≡◌, refl}
use Rattle.foundation.specs.Text.{bytes}
use Rattle.cases.specs.declared.calls.Call.TheVariants.{Judge}
use Rattle.cases.specs.Arguments.{room_at, settings_in, place_in}
use Rattle.cases.specs.Calls.{call_named}
use Rattle.case_notation.proofs.Opened.{opened}

pub record CallExamples : Type 0 where
  pub judged : call_named (bytes "judge") ≡ Some Judge
  pub longer_name : call_named (bytes "judges") ≡ None
  pub shorter_name : call_named (bytes "judg") ≡ None

pub call_examples : CallExamples
call_examples = record { judged = refl; longer_name = refl; shorter_name = refl }

pub record ArgumentExamples : Type 0 where
  pub place : place_in (bytes "0001/FFFF") ≡ Some (record { inputs = 1; outputs = 65535 })
  pub place_too_large : place_in (bytes "0001/10000") ≡ None
  pub one_set : place_in (bytes "0001") ≡ None
  pub settings :
      settings_in (bytes "search 255 1 0 65535")
      ≡ Some (record { activities = 255; inputs = 1; outputs = 0; threshold = 65535 })
  pub settings_too_large : settings_in (bytes "search 256 1 0 1") ≡ None
  pub settings_missing : settings_in (bytes "search 6 1 0") ≡ None
  pub room_all : room_at 640 1 (bytes "x 640") ≡ Some 640
  pub room_too_large : room_at 640 1 (bytes "x 641") ≡ None

pub argument_examples : ArgumentExamples
unfolding opened
argument_examples =
    record {
      place = refl;
      place_too_large = refl;
      one_set = refl;
      settings = refl;
      settings_too_large = refl;
      settings_missing = refl;
      room_all = refl;
      room_too_large = refl;
    }
