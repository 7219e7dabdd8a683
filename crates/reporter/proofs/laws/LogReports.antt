-- What is written of a log, from the answer and the buffers of its listing: the line of the
-- refusal, or the words to report and the line of the run. There are no more words than the list
-- takes.
-- Assumes nothing.
use Rattle.std.specs.Prelude.{Some}
use Prim.Native.Nat.{ℕ, ◌+◌, ◌*◌, ◌≤◌}
use native.Mathlib.Omega.{arith}
use mathlib.Core.Path.{◌≡◌}
use mathlib.Core.List.{List, ◌++◌}
use lib.ListN.{length, take, length-take}
use Rattle.limits.specs.declared.Refusal.{Refusal}
use Rattle.limits.specs.declared.Settings.{Settings}
use Rattle.discovery_spec.specs.declared.Run.{Run}
use Rattle.discovery_spec.specs.Discovery.{run, run_refusal}
use Rattle.writer.specs.Writing.{line_bytes, list_text}
use Rattle.reporter_spec.specs.Program.{list_words, capacity, refusal_line, result_bytes}
use Rattle.report_lines.specs.ProgramLines.{run_line}
use Rattle.reporter.specs.Reporting.{log_report, most_output}
use Rattle.reporter.proofs.laws.OutputRoom.{report_parts}
use Rattle.reporter.proofs.laws.RunListed.{Reports, reported_fits}

pub refused_report : (s : Settings) (text : List ℕ) {r : Refusal} → run_refusal s text ≡ Some r → log_report s text ≡ refusal_line r
unfolding log_report
refused_report s text e = rw e

module _ {s : Settings} {text : List ℕ} {x : Run} {count : ℕ} {buffer : List ℕ} (r : Reports s text capacity x count buffer) where
  pub run_report : log_report s text ≡ list_text (take count buffer) ++ run_line x
  unfolding log_report
  run_report = rw (r.passes, r.own, r.these) (report_parts (run s text capacity))

  pub count_fits : count ≤ list_words
  unfolding capacity
  count_fits = omega (arith, r.counted, reported_fits s text capacity r.passes)

-- so many words, and the last line
pub words_fit : (count : ℕ) (buffer : List ℕ) {room : ℕ} → count ≤ list_words → most_output ≤ room → line_bytes * length (take count buffer) + result_bytes ≤ room
words_fit count buffer few enough = omega (arith, length-take count buffer)
