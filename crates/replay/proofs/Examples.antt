-- The definitions of the steps of replaying and judging, tried on each sign of the balances and
-- each check of the arguments.
-- Assumes nothing.
use Rattle.std.specs.Prelude.{Ok, Err}
use mathlib.Core.Path.{◌≡◌, refl}
use mathlib.Core.List.{[]}
use lib.IntN.{pos, negsuc}
use Rattle.foundation.specs.Text.{bytes}
use Rattle.limits.specs.declared.Refusal.TheVariants.{InvalidSetting, EmptyLog, InvalidPlace}
use Rattle.places.specs.Places.{place}
use Rattle.event_log_spec.specs.Checking.{log_size}
use Rattle.replay_spec.specs.Answers.{judged}
use Rattle.replay_spec.proofs.Examples.{counts}
use Rattle.replay_spec.proofs.Opened.{opened as opened_replay_spec}
use Rattle.token_replay.proofs.Examples.{tokens}
use Rattle.replay.specs.Replaying.{place_and_text_checked, count_row, with_cases}
use Rattle.replay.proofs.Opened.{opened}

pub record StepExamples : Type 0 where
  pub fits : with_cases (count_row (counts 1 2 3 4)) (tokens (pos 0) (pos 0)) 10 ≡ count_row (counts 11 2 3 4)
  pub underfeeds_only : with_cases (count_row (counts 1 2 3 4)) (tokens (negsuc 0) (negsuc 0)) 10 ≡ count_row (counts 1 12 3 4)
  pub overfeeds_only : with_cases (count_row (counts 1 2 3 4)) (tokens (pos 1) (pos 0)) 10 ≡ count_row (counts 1 2 13 4)
  pub does_both : with_cases (count_row (counts 1 2 3 4)) (tokens (pos 1) (negsuc 0)) 10 ≡ count_row (counts 1 2 3 14)
  pub arguments : place_and_text_checked 3 (bytes "000000020001\n") (place 0x0001 0x0002) ≡ Ok (log_size 1 2)
  pub arguments_setting : judged 3 1001 [] (place 0x0000 0x0002) ≡ Err InvalidSetting
  pub arguments_place : place_and_text_checked 3 [] (place 0x0000 0x0002) ≡ Err (InvalidPlace 0)
  pub arguments_text : place_and_text_checked 3 [] (place 0x0001 0x0002) ≡ Err EmptyLog

pub step_examples : StepExamples
unfolding opened opened_replay_spec
step_examples = record { fits = refl; underfeeds_only = refl; overfeeds_only = refl; does_both = refl; arguments = refl; arguments_setting = refl; arguments_place = refl; arguments_text = refl }
