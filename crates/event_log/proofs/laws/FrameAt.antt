-- A text that goes on with a frame, seen from the index where the frame begins: its count, its
-- digits, its end, and what stands after it. Each part of a written frame has its length, so each
-- part is the text's at an index.
-- Assumes nothing.
use Rattle.std.specs.Prelude.{Some}
use Rattle.log_lines.specs.Reading.{count_in}
use Prim.Native.Nat.{ℕ, ◌+◌, ◌-◌, ◌*◌, ◌^◌, ◌≤◌, ◌<◌}
use native.Mathlib.Omega.{arith}
use mathlib.Core.Path.{◌≡◌, sym, ap, ◌∙◌}
use mathlib.Core.List.{List, ◌∷◌, ◌++◌, flat_map, append_assoc}
use lib.ListN.{length, take, drop, length-append, length-drop}
use lib.Seq.{take_at, drop_at, drop-drop, drop-append-add}
use Rattle.hex_digits.specs.Digits.{write_hex, line_feed}
use Rattle.event_log_spec.specs.Frames.{Frame, count_digits, write_frame, written_with}
use Rattle.event_log.specs.Stepping.{trace_end}
use Rattle.hex_digits.proofs.laws.DigitLaws.{length_write}
use Rattle.event_log_spec.proofs.laws.PairLaws.{length_pairs}
use Rattle.event_log.proofs.laws.FrameSteps.{count_written, end_written}

module _ (text : List ℕ) (at : ℕ) (f : Frame) (rest : List ℕ) (e : drop at text ≡ write_frame f ++ rest) where
  -- the activity digits of the frame, and where they begin
  abbrev pairs : List ℕ
  pairs = flat_map (write_hex 2) f.trace

  abbrev start : ℕ
  start = at + count_digits

  in_parts : drop at text ≡ write_hex count_digits f.cases ++ (pairs ++ (line_feed ∷ rest))
  unfolding written_with
  in_parts = e ∙ simp append_assoc

  pub frame_count : 1 ≤ f.cases → f.cases < 16 ^ count_digits → count_in (drop at text) ≡ Some f.cases
  frame_count = count_written text at f.cases (pairs ++ (line_feed ∷ rest)) in_parts

  pub from_digits : drop start text ≡ pairs ++ (line_feed ∷ rest)
  from_digits =
      sym (drop-drop count_digits at text)
      ∙ ap (drop count_digits) in_parts
      ∙ drop_at (write_hex count_digits f.cases) (pairs ++ (line_feed ∷ rest)) count_digits (length_write count_digits f.cases)

  pub frame_end : trace_end text start ≡ start + 2 * length f.trace
  frame_end = end_written text start f.trace rest from_digits

  pub frame_part : take (trace_end text start - start) (drop start text) ≡ pairs
  frame_part =
      rw (frame_end, from_digits)
      (take_at pairs (line_feed ∷ rest) (start + 2 * length f.trace - start) (omega (arith, length_pairs f.trace)))

  pub frame_inside : trace_end text start < length text
  frame_inside =
      rw frame_end
      (omega
      (arith, length-drop start text, ap length from_digits, length-append pairs (line_feed ∷ rest), length_pairs f.trace))

  pub frame_next : drop (trace_end text start + 1) text ≡ rest
  frame_next =
      let size : start + 2 * length f.trace + 1 ≡ start + (length pairs + 1) = omega (arith, length_pairs f.trace) in
      rw (frame_end, size, ← drop-drop (length pairs + 1) start text, from_digits) (drop-append-add pairs (line_feed ∷ rest) 1)
