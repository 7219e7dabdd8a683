-- A log that was accepted with four digits is refused at eight where it was not padded. The eight
-- digits take in two activities of its first line. With three activities or fewer, what is left is
-- too short for a frame. With more the line has its form, but what is left begins with an activity
-- that stood inside the trace, where neither the start nor the end may stand; so it is not the
-- start.
-- Assumes nothing.
use Rattle.std.specs.Prelude.{None, Some, Ok, Err}
use Prim.Native.Nat.{ℕ, suc, ◌-◌, ◌/◌, ◌%◌, ◌≤◌}
use native.Mathlib.Omega.{arith}
use mathlib.Core.Path.{◌≡◌, refl, sym, ap, ◌∙◌}
use mathlib.Core.Bool.{true, false, not, ◌||◌, or-true}
use mathlib.Core.List.{List, [], ◌∷◌, ◌++◌, map, flat_map, append-nil, append_assoc}
use borrow.Author.Tests.{ne_eqb, lt-ltb, leb-true, leb-false}
use lib.Dec.{eqb, leb, lit≤, lit<}
use lib.ListN.{length, take, drop, get_or, length-append, length-drop}
use lib.Seq.{drop-drop, take-add}
use Rattle.foundation.specs.Lists.{Each}
use Rattle.foundation.proofs.laws.Booleans.{by_test}
use Rattle.foundation.proofs.laws.Each.{each_drop}
use Rattle.foundation.proofs.laws.Lists.{each_head, each_tail}
use Rattle.limits.specs.declared.Refusal.{Refusal}
use Rattle.limits.specs.declared.Refusal.TheVariants.{MalformedFrame, MisplacedEndpoint}
use Rattle.limits.specs.Refusals.{number, value}
use Rattle.limits.specs.Settings.{bound_in_range, bound_fault}
use Rattle.limits.proofs.laws.FirstOf.{first_none}
use Rattle.limits.proofs.laws.AnswerNumbers.{answer_accepted}
use Rattle.event_log_spec.specs.declared.LogSize.{LogSize}
use Rattle.hex_digits.specs.Digits.{read_hex}
use Rattle.hex_digits.proofs.laws.DigitsFromFront.{read_snoc}
use Rattle.event_log_spec.specs.Frames.{Frame, FrameUnder, Behaviour, count_digits, shortest_frame}
use Rattle.event_log_spec.specs.Lines.{Line, lines, first_line, read_pairs, frame_with, frame_of, frames_with}
use Rattle.event_log_spec.specs.Checking.{malformed, malformed_with, endpoint_misplaced, line_fault, lines_fault, lines_fault_with, text_fault_with, checked, checked_with}
use Rattle.event_log_spec.proofs.laws.Lines.{lines_step}
use Rattle.event_log_spec.proofs.laws.LineFaults.{NamesLine, FaultOrder, line_malformed, endpoint_misplaced_lem, no_fault, fault_order}
use Rattle.event_log_spec.proofs.laws.FrameLines.{WellFormed, well_formed, not_malformed, trace_length, no_fault_framed}
use Rattle.replay_spec.specs.Answers.{first_trace_with}
use Rattle.event_log_spec.proofs.laws.TraceLaws.{none_unknown}
use Rattle.event_log_spec.proofs.laws.FirstFault.{refused_exactly}
use Rattle.event_log_spec.proofs.laws.LogChecks.{LogPasses, bound_passes, log_passes}
use Rattle.padded_logs.specs.Padding.{former_count_digits, padded_line, padded}
use Rattle.padded_logs.specs.NeverMisread.{former_trace, RefusedAtFirst, too_short, misplaced, NeverMisread}
use Rattle.padded_logs.proofs.laws.PaddedLines.{lines_padded}
use Rattle.padded_logs.proofs.laws.PaddedFrames.{frame_padded}
use Rattle.padded_logs.proofs.laws.NothingLostHolds.{nothing_lost}

-- four digits are two activities
pairs_after : (bytes : List ℕ) → read_pairs (drop 4 bytes) ≡ drop 2 (read_pairs bytes)
unfolding read_pairs
pairs_after [] = refl
pairs_after (a ∷ []) = refl
pairs_after (a ∷ (b ∷ [])) = refl
pairs_after (a ∷ (b ∷ (c ∷ []))) = refl
pairs_after (a ∷ (b ∷ (c ∷ (d ∷ bytes)))) = refl

-- what is left of the trace
trace_left : (l : Line) → (frame_of l).trace ≡ drop 2 (frame_with former_count_digits l).trace
unfolding frame_with
trace_left l = ap read_pairs (sym (drop-drop 4 4 l.bytes)) ∙ pairs_after (drop 4 l.bytes)

-- the rest of a behaviour after its first two events does not begin with the start
rest_misplaced : (trace : List ℕ) → Behaviour trace → 4 ≤ length trace → endpoint_misplaced (drop 2 trace) ≡ true
unfolding endpoint_misplaced
rest_misplaced trace b long = rw b.ends (go b.between b.neither (omega (arith, ap length b.ends, length-append b.between (1 ∷ []))))
  where
    go : (between : List ℕ) → Each (λ (a : ℕ). 2 ≤ a) between → 2 ≤ length between → endpoint_misplaced (drop 2 (0 ∷ (between ++ (1 ∷ [])))) ≡ true
    go [] neither some = absurd (omega arith)
    go (a ∷ []) neither some = absurd (omega arith)
    go (a ∷ (c ∷ rest)) neither some = rw (ne_eqb c 0 (λ e. omega (arith, each_head (each_tail neither))))

-- digits behind a number make it no smaller
more_digits : (bytes more : List ℕ) → read_hex bytes ≤ read_hex (bytes ++ more)
more_digits bytes [] = rw (append-nil bytes) (omega arith)
more_digits bytes (byte ∷ more) =
    let longer : read_hex (bytes ++ (byte ∷ [])) ≤ read_hex (bytes ++ (byte ∷ more))
    = rw (append_assoc bytes (byte ∷ []) more) at (more_digits (bytes ++ (byte ∷ [])) more) in
    omega (arith, longer, read_snoc bytes byte)

-- a first line that had the form of a frame with four digits, and its frame a place in a log
module _ (A : ℕ) (l : Line) (formed : WellFormed (padded_line l)) (under : FrameUnder A (frame_with former_count_digits l)) where
  abbrev trace : List ℕ
  trace = (frame_with former_count_digits l).trace

  former_length : length trace ≡ (length (padded_line l).bytes - count_digits) / 2
  former_length = ap (λ (f : Frame). length f.trace) (sym (frame_padded l)) ∙ trace_length (padded_line l)

  count_left : 1 ≤ (frame_of l).cases
  unfolding frame_with
  count_left =
      rw (take-add 4 4 l.bytes) (omega (arith, under.counted, more_digits (take 4 l.bytes) (take 4 (drop 4 l.bytes))))

  still_short : length trace ≤ 3 → malformed l ≡ true
  unfolding malformed_with
  still_short few =
      rw (
        lt-ltb (length l.bytes) shortest_frame (omega (arith, former_length, few, formed.even)),
        or-true (not l.ended || eqb (length l.bytes % 2) 1),
      )

  still_formed : 4 ≤ length trace → malformed l ≡ false
  still_formed many =
      not_malformed
      (record {
        feed = formed.feed;
        even = omega (arith, formed.even);
        enough = omega (arith, former_length, many);
        digits = each_drop 4 formed.digits;
        counted = count_left;
      })

  -- it has number 2 or number 4 at eight
  data FirstFault : Type 0 where
    short_line : length trace ≤ 3 → line_fault A 0 l ≡ Some (MalformedFrame 0) → FirstFault
    other_start : 4 ≤ length trace → line_fault A 0 l ≡ Some (MisplacedEndpoint 0) → FirstFault

  first_fault : FirstFault
  first_fault =
      by_test
      (leb 4 (length trace))
      (λ t. let many = leb-true 4 (length trace) t in
      let left : (frame_of l).trace ≡ drop 2 trace = trace_left l in
      other_start many
      ((fault_order A 0 l _).1
      (endpoint_misplaced_lem
      (record { few = lit< tt; formed = still_formed many; short = omega (arith, ap length left, length-drop 2 trace, under.short) })
      (rw left (none_unknown A (each_drop 2 under.known)))
      (rw left (rest_misplaced trace under.behaviour many)))))
      (λ f. let few : length trace ≤ 3 = omega (arith, leb-false 4 (length trace) f) in
      short_line few ((fault_order A 0 l _).1 (line_malformed (lit< tt) (still_short few))))

-- an accepted text of four-digit counts, seen as the padded text that is accepted at eight
module _ (A : ℕ) (text : List ℕ) (size : LogSize) (accepted : checked_with former_count_digits A text ≡ Ok size) where
  passes : LogPasses (bound_fault A) None A (padded text)
  unfolding checked_with
  passes =
      let padded_accepted = nothing_lost.check A text ∙ accepted in
      (log_passes A (padded text) (bound_fault A) None).0 (answer_accepted _ _ size padded_accepted).0

  some_byte : 1 ≤ length text
  unfolding padded lines flat_map
  some_byte = go text passes.some_byte
    where
      go : (bytes : List ℕ) → 1 ≤ length (padded bytes) → 1 ≤ length bytes
      go [] some = absurd (omega arith)
      go (byte ∷ bytes) some = omega arith

  -- its first line passes with the zeros
  first_passes : line_fault A 0 (padded_line (first_line text)) ≡ None
  unfolding text_fault_with lines_fault_with
  first_passes =
      let l = first_line text in
      let later = map padded_line (lines (drop (suc (length l.bytes)) text)) in
      let whole : lines (padded text) ≡ padded_line l ∷ later = lines_padded text ∙ ap (map padded_line) (lines_step text some_byte) in
      let pass : lines_fault A 0 (padded_line l ∷ later) ≡ None = rw whole at passes.lines_pass in
      (first_none (line_fault A 0 (padded_line l)) (lines_fault A 1 later ∷ []) pass).0

  -- so it has the form of a frame, and is one that a log may have
  first_formed : WellFormed (padded_line (first_line text))
  first_formed = go ((fault_order A 0 (padded_line (first_line text)) None).0 first_passes)
    where
      go : FaultOrder A 0 (padded_line (first_line text)) None → WellFormed (padded_line (first_line text))
      go (no_fault readable known placed) = well_formed (padded_line (first_line text)) readable.formed

  first_under : FrameUnder A (frame_with former_count_digits (first_line text))
  first_under = rw (frame_padded (first_line text)) at (no_fault_framed A 0 (padded_line (first_line text)) first_passes).1.under

  -- its activities
  same_trace : former_trace text ≡ (frame_with former_count_digits (first_line text)).trace
  unfolding first_trace_with frames_with
  same_trace = ap (λ (ls : List Line). (get_or (map (frame_with former_count_digits) ls) 0 (record { cases = 0; trace = [] })).trace) (lines_step text some_byte)

  in_range : bound_in_range A ≡ true
  in_range = (bound_passes A).0 passes.settings_pass

  refused_first : (r : Refusal) → NamesLine 0 r → line_fault A 0 (first_line text) ≡ Some r → checked A text ≡ Err r
  unfolding first_line
  refused_first r names faulty =
      (refused_exactly A text r in_range some_byte).1
      (record {
        index = 0;
        there = rw (lines_step text some_byte) (omega arith);
        sound_before = λ j less. absurd (omega arith);
        faulty = faulty;
        names = names;
      })

  refused_at_first : FirstFault A (first_line text) first_formed first_under → RefusedAtFirst A text
  unfolding number value
  refused_at_first (short_line few e) =
      too_short (rw same_trace few) (refused_first _ (record { line = refl; at_least = lit≤ tt; at_most = lit≤ tt }) e)
  refused_at_first (other_start many e) =
      misplaced (rw same_trace many) (refused_first _ (record { line = refl; at_least = lit≤ tt; at_most = lit≤ tt }) e)

pub never_misread : NeverMisread
unfolding NeverMisread
never_misread A text size accepted =
    refused_at_first A text size accepted
    (first_fault A (first_line text) (first_formed A text size accepted) (first_under A text size accepted))
