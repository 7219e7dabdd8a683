-- The checks of the search call: settings out of their ranges are refused first, and then the log
-- decides. Where nothing is refused, the settings are in their ranges and the text is a log, so
-- that the search can be made.
-- Assumes nothing.
use Rattle.std.specs.Prelude.{None, Some, Ok, Err}
use Prim.Native.Nat.{ℕ}
use mathlib.Core.Path.{◌≡◌, ◌∙◌}
use mathlib.Core.Bool.{true, false, not}
use mathlib.Core.List.{List}
use borrow.Author.Tests.{not-false}
use Rattle.limits.specs.declared.Refusal.{Refusal}
use Rattle.limits.specs.declared.Refusal.TheVariants.{InvalidSetting}
use Rattle.limits.specs.declared.Settings.{Settings}
use Rattle.limits.specs.Refusals.{first_refusal}
use Rattle.limits.specs.Settings.{bound_fault, settings_in_range, settings_fault}
use Rattle.limits.proofs.laws.SettingsRanges.{InRange, in_range}
use Rattle.event_log_spec.specs.declared.LogSize.{LogSize}
use Rattle.event_log_spec.specs.Frames.{WrittenLog}
use Rattle.event_log_spec.specs.Lines.{frames_of}
use Rattle.event_log_spec.specs.Checking.{log_refusal, log_refusal_with, checked, checked_with}
use Rattle.limits.proofs.laws.FirstOf.{given_none}
use Rattle.limits.proofs.laws.AnswerNumbers.{answer_refused, answer_accepted}
use Rattle.event_log_spec.proofs.laws.LogChecks.{log_passes}
use Rattle.event_log_spec.proofs.laws.Written.{text_written}
use Rattle.discovery_spec.specs.Discovery.{run_refusal, run_refusal_with}

module _ (s : Settings) (text : List ℕ) where
  -- what is known where the call is not refused
  pub record NotRefused : Type 0 where
    pub settings : InRange s
    pub log : WrittenLog s.activities (frames_of text) text

  pub not_refused : run_refusal s text ≡ None → NotRefused
  unfolding run_refusal_with settings_fault
  not_refused e =
      let passes = (log_passes s.activities text (settings_fault s) None).0 e in
      record {
        settings = in_range s (not-false (settings_in_range s) (given_none (not (settings_in_range s)) InvalidSetting passes.settings_pass));
        log = text_written s.activities text passes.some_byte passes.lines_pass;
      }

  -- by the settings
  pub settings_refused : settings_in_range s ≡ false → run_refusal s text ≡ Some InvalidSetting
  unfolding run_refusal_with log_refusal_with first_refusal settings_fault
  settings_refused e = rw e

  module _ (settings : settings_in_range s ≡ true) where
    log_decides : run_refusal s text ≡ log_refusal (bound_fault s.activities) None s.activities text
    unfolding run_refusal_with settings_fault bound_fault
    log_decides = rw (settings, (in_range s settings).bound)

    -- by the log
    pub log_refused : (r : Refusal) → checked s.activities text ≡ Err r → run_refusal s text ≡ Some r
    unfolding checked_with
    log_refused r e = log_decides ∙ (answer_refused _ _ r).0 e

    pub log_accepted : (size : LogSize) → checked s.activities text ≡ Ok size → run_refusal s text ≡ None
    unfolding checked_with
    log_accepted size e = log_decides ∙ (answer_accepted _ _ size e).0
