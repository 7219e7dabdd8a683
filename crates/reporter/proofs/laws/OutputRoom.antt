-- What placelist writes for any input fits in the most output: a refusal is one line; else there is
-- a line for each reported place, of which there are no more than the list takes, and the last
-- line.
-- Assumes nothing.
use Rattle.std.specs.Prelude.{Option, None, Some}
use Prim.Native.Nat.{ℕ, ◌≤◌, ◌<◌}
use native.Mathlib.Omega.{arith}
use mathlib.Core.Path.{◌≡◌, refl}
use mathlib.Core.Bool.{true, false}
use mathlib.Core.List.{List, ◌++◌}
use borrow.Author.Tests.{lt-ltb, le-ltb, ltb-true, ltb-false}
use lib.Dec.{ltb}
use lib.ListN.{length, length-append}
use Rattle.foundation.proofs.laws.Booleans.{by_test}
use Rattle.limits.specs.declared.Refusal.{Refusal}
use Rattle.limits.specs.declared.Refusal.TheVariants.{InvalidSetting, TooLarge}
use Rattle.limits.specs.declared.Settings.{Settings}
use Rattle.limits.specs.Refusals.{answer}
use Rattle.limits.proofs.laws.FirstOf.{only_one}
use Rattle.discovery_spec.specs.Search.{Progress}
use Rattle.discovery_spec.specs.Discovery.{run, summary, run_refusal}
use Rattle.writer.specs.Writing.{list_text}
use Rattle.writer.proofs.laws.PlaceLines.{length_text}
use Rattle.reporter_spec.specs.Program.{most_input, capacity, settings_malformed, settings_in, log_in, program_refusal_with, refusal_line, result_line, reported_words, report, placelist, placelist_with}
use Rattle.report_lines.specs.ProgramLines.{run_line}
use Rattle.report_lines.proofs.laws.LineLengths.{length_refusal, length_run}
use Rattle.reporter.specs.Reporting.{log_report, most_output}
use Rattle.reporter.proofs.laws.RunListed.{reported_fits}

-- the report of a run is its words and the line of its answer
pub report_parts : (p : Progress) → report p ≡ list_text (reported_words p) ++ run_line (summary p)
unfolding report result_line run_line summary
report_parts p = refl

log_fits : (s : Settings) (text : List ℕ) → length (log_report s text) ≤ most_output
unfolding log_report capacity
log_fits s text = go (run_refusal s text) refl
  where
    p : Progress
    p = run s text capacity

    go : (o : Option Refusal) → run_refusal s text ≡ o → length (answer refusal_line o (report p)) ≤ most_output
    go None e =
        rw (report_parts p) (
        omega (
          arith,
          length-append (list_text (reported_words p)) (run_line (summary p)),
          length_text (reported_words p),
          length_run (summary p),
          reported_fits s text capacity e,
        )
        )
    go (Some r) e = omega (arith, length_refusal r)

-- what decides what is written: the length of the input, then the form of the settings frame, then
-- the log
module _ (input : List ℕ) where
  pub too_large : most_input < length input → placelist input ≡ refusal_line (TooLarge 0)
  unfolding placelist_with program_refusal_with
  too_large long = rw (lt-ltb most_input (length input) long)

  module _ (short : length input ≤ most_input) where
    pub frame_malformed : settings_malformed input ≡ true → placelist input ≡ refusal_line InvalidSetting
    unfolding placelist_with program_refusal_with
    frame_malformed e = rw (le-ltb most_input (length input) short, e)

    pub log_decides : settings_malformed input ≡ false → placelist input ≡ log_report (settings_in input) (log_in input)
    unfolding placelist_with program_refusal_with log_report
    log_decides e = rw (le-ltb most_input (length input) short, e, only_one (run_refusal (settings_in input) (log_in input)))

  pub output_fits : length (placelist input) ≤ most_output
  output_fits =
      by_test
      (ltb most_input (length input))
      (λ t. rw (too_large (ltb-true most_input (length input) t)) (omega (arith, length_refusal (TooLarge 0))))
      (λ f.
      let short = ltb-false most_input (length input) f in
      by_test
      (settings_malformed input)
      (λ t. rw (frame_malformed short t) (omega (arith, length_refusal InvalidSetting)))
      (λ e. rw (log_decides short e) (log_fits (settings_in input) (log_in input))))
