-- The definitions of padding, tried on short texts.
-- Assumes nothing.
use Rattle.std.specs.Prelude.{Ok, Err}
use mathlib.Core.Path.{◌≡◌, refl}
use mathlib.Core.List.{[]}
use Rattle.foundation.specs.Text.{bytes}
use Rattle.limits.specs.declared.Refusal.TheVariants.{MalformedFrame, MisplacedEndpoint}
use Rattle.event_log_spec.specs.Checking.{log_size, checked, checked_with}
use Rattle.padded_logs.specs.Padding.{former_count_digits, padded, padded_input}
use Rattle.padded_logs.proofs.Opened.{opened}

pub record PaddingExamples : Type 0 where
  pub nothing : padded [] ≡ []
  pub frames : padded (bytes "00010001\nFFFF000201\n") ≡ bytes "000000010001\n0000FFFF000201\n"
  pub faulty : padded (bytes "\nx\n\n00") ≡ bytes "0000\n0000x\n0000\n000000"
  pub input : padded_input (bytes "0303010000\n00010001\n") ≡ bytes "0303010000\n000000010001\n"
  pub no_log : padded_input (bytes "0303010000") ≡ bytes "0303010000"
  pub four_digits : checked_with former_count_digits 2 (bytes "FFFF0001\n") ≡ Ok (log_size 1 65535)
  pub not_at_eight : checked 2 (bytes "FFFF0001\n") ≡ Err (MalformedFrame 0)
  pub longer_at_eight : checked 6 (bytes "0001000203040501\n") ≡ Err (MisplacedEndpoint 0)
  pub at_eight : checked 2 (padded (bytes "FFFF0001\n")) ≡ Ok (log_size 1 65535)

pub padding_examples : PaddingExamples
unfolding opened
padding_examples =
    record {
      nothing = refl;
      frames = refl;
      faulty = refl;
      input = refl;
      no_log = refl;
      four_digits = refl;
      not_at_eight = refl;
      longer_at_eight = refl;
      at_eight = refl;
    }
