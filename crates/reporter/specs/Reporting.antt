-- All of placelist but its reads and writes, as one call on the bytes read and a buffer for those
-- to be written. Document 01, "Thinning and writing", last paragraph.
-- Assumes nothing.
use Rattle.std.specs.Prelude.{ℕ, ◌+◌, ◌*◌, List, ltb, length, Option, Result}
use Rattle.foundation.specs.Buffers.{overwrite}
use Rattle.limits.specs.declared.Refusal.{Refusal}
use Rattle.limits.specs.declared.Refusal.TheVariants.{BufferTooSmall}
use Rattle.limits.specs.declared.Settings.{Settings}
use Rattle.limits.specs.Refusals.{given, answer, answered}
use Rattle.discovery_spec.specs.Discovery.{run, run_refusal}
use Rattle.writer.specs.Writing.{line_bytes}
use Rattle.reporter_spec.specs.Program.{list_words, capacity, result_bytes, refusal_line, report, placelist}

-- what is written of a log under settings
unfoldable pub log_report : Settings → List ℕ → List ℕ
log_report s text = answer refusal_line (run_refusal s text) (report (run s text capacity))

-- the most bytes that are written: the lines of a full list, and the last line
abbrev pub most_output : ℕ
most_output = line_bytes * list_words + result_bytes

-- the buffer is to have room for the most bytes, whatever the input
unfoldable pub reporting_refusal : ℕ → Option Refusal
reporting_refusal room = given (ltb room most_output) BufferTooSmall

-- the call's answer for a buffer of that many bytes: the bytes written
unfoldable pub reported : List ℕ → ℕ → Result ℕ Refusal
reported input room = answered (reporting_refusal room) (length (placelist input))

-- what the buffer holds on return: what placelist writes, then its old tail; after a refusal, what
-- it held before
unfoldable pub output_after : List ℕ → List ℕ → List ℕ
output_after input before =
    answer (λ (r : Refusal). before) (reporting_refusal (length before)) (overwrite (placelist input) before)
