-- The definitions of frames and checking, tried on small texts, on the source's first log and at
-- each fault of a line.
-- Assumes nothing.
use Rattle.std.specs.Prelude.{None, Some, Ok, Err}
use Prim.Native.Nat.{ℕ}
use mathlib.Core.Path.{◌≡◌, refl}
use mathlib.Core.Bool.{true, false}
use mathlib.Core.List.{List, [], ◌∷◌, ◌++◌, flat_map}
use lib.Dec.{lit<, lit≤}
use lib.ListN.{replicate}
use Rattle.foundation.specs.Text.{bytes}
use Rattle.foundation.specs.Lists.{each_nil, each_cons}
use Rattle.limits.specs.declared.Refusal.TheVariants.{InvalidSetting, MalformedFrame, UnknownActivity, MisplacedEndpoint, TooLarge, EmptyLog}
use Rattle.event_log_spec.specs.Frames.{Frame, write_frame, WrittenLog}
use Rattle.event_log_spec.specs.Lines.{lines, frames_of}
use Rattle.event_log_spec.specs.Checking.{line_fault, log_size, checked}
use Rattle.event_log_spec.proofs.Opened.{opened}

abbrev pub frame : ℕ → List ℕ → Frame
frame cases trace = record { cases = cases; trace = trace }

-- the log of the source's Figure 1, with the codes 2 to 5 for its activities a to d
abbrev figure1_frames : List Frame
figure1_frames =
    frame 31 (0 ∷ 2 ∷ 3 ∷ 4 ∷ 1 ∷ [])
    ∷ frame 27 (0 ∷ 3 ∷ 2 ∷ 4 ∷ 1 ∷ [])
    ∷ frame 23 (0 ∷ 2 ∷ 3 ∷ 5 ∷ 1 ∷ [])
    ∷ frame 19 (0 ∷ 3 ∷ 2 ∷ 5 ∷ 1 ∷ [])
    ∷ []

abbrev pub figure1_log : List ℕ
figure1_log = bytes "0000001F0002030401\n0000001B0003020401\n000000170002030501\n000000130003020501\n"

-- a frame with one case and as many events between its first and its last
abbrev with_inside : List ℕ → Frame
with_inside inside = frame 1 (0 ∷ (inside ++ (1 ∷ [])))

pub record LogExamples : Type 0 where
  pub written : flat_map write_frame figure1_frames ≡ figure1_log
  pub read : frames_of figure1_log ≡ figure1_frames
  pub last_line : lines (bytes "0\n1") ≡ record { bytes = bytes "0"; ended = true } ∷ record { bytes = bytes "1"; ended = false } ∷ []
  pub built : WrittenLog 2 (frame 1 (0 ∷ 1 ∷ []) ∷ []) (bytes "000000010001\n")
  pub accepted : checked 6 figure1_log ≡ Ok (log_size 4 100)
  pub repeated : checked 2 (bytes "FFFFFFFF0001\nFFFFFFFF0001\n") ≡ Ok (log_size 2 8589934590)
  pub upper_digits : checked 2 (bytes "0000FFFF0001\n000100000001\n") ≡ Ok (log_size 2 131071)
  pub longest : checked 3 (write_frame (with_inside (replicate 252 2))) ≡ Ok (log_size 1 1)

pub record FaultExamples : Type 0 where
  pub setting_first : checked 1 [] ≡ Err InvalidSetting
  pub empty : checked 2 [] ≡ Err EmptyLog
  pub no_line_feed : checked 6 (bytes "00000001000201") ≡ Err (MalformedFrame 0)
  pub other_line_end : checked 6 (bytes "000000010001\t") ≡ Err (MalformedFrame 0)
  pub odd : checked 6 (bytes "0000000100021\n") ≡ Err (MalformedFrame 0)
  pub too_few : checked 6 (bytes "0000000100\n") ≡ Err (MalformedFrame 0)
  pub eleven_digits : checked 6 (bytes "00000001000\n") ≡ Err (MalformedFrame 0)
  pub thirteen_digits : checked 6 (bytes "0000000100010\n") ≡ Err (MalformedFrame 0)
  pub four_count_digits : checked 6 (bytes "00010001\n") ≡ Err (MalformedFrame 0)
  pub lower_case : checked 16 (bytes "00000001000a01\n") ≡ Err (MalformedFrame 0)
  pub no_case : checked 6 (bytes "00000000000201\n") ≡ Err (MalformedFrame 0)
  pub malformed_before_unknown : checked 6 (bytes "000000000009\n") ≡ Err (MalformedFrame 0)
  pub malformed_before_too_large : checked 6 (write_frame (frame 0 (replicate 255 0))) ≡ Err (MalformedFrame 0)
  pub too_large_before_unknown : checked 6 (write_frame (with_inside (replicate 253 9))) ≡ Err (TooLarge 0)
  pub unknown : checked 6 (bytes "00000001000601\n") ≡ Err (UnknownActivity 0)
  pub unknown_before_misplaced : checked 6 (bytes "000000010600\n") ≡ Err (UnknownActivity 0)
  pub first_not_start : checked 6 (bytes "00000001020301\n") ≡ Err (MisplacedEndpoint 0)
  pub last_not_end : checked 6 (bytes "00000001000203\n") ≡ Err (MisplacedEndpoint 0)
  pub last_is_start : checked 6 (bytes "00000001000200\n") ≡ Err (MisplacedEndpoint 0)
  pub start_inside : checked 6 (bytes "00000001000001\n") ≡ Err (MisplacedEndpoint 0)
  pub end_inside : checked 6 (bytes "00000001000101\n") ≡ Err (MisplacedEndpoint 0)
  pub last_line : line_fault 2 4095 (record { bytes = bytes "000000010001"; ended = true }) ≡ None
  pub line_too_many : line_fault 2 4096 (record { bytes = []; ended = false }) ≡ Some (TooLarge 4096)
  pub first_faulty_line : checked 6 (bytes "000000010001\n000000010100\n00000000\n") ≡ Err (MisplacedEndpoint 1)

built_log : WrittenLog 2 (frame 1 (0 ∷ 1 ∷ []) ∷ []) (bytes "000000010001\n")
unfolding opened
built_log =
    record {
      some_frame = lit≤ tt;
      few_frames = lit≤ tt;
      each =
          each_cons
          (record {
            counted = lit≤ tt;
            countable = lit< tt;
            long = lit≤ tt;
            short = lit≤ tt;
            known = each_cons (lit< tt) (each_cons (lit< tt) each_nil);
            behaviour = record { between = []; ends = refl; neither = each_nil };
          })
          each_nil;
      in_order = refl;
    }

pub log_examples : LogExamples
unfolding opened
log_examples =
    record {
      written = refl;
      read = refl;
      last_line = refl;
      built = built_log;
      accepted = refl;
      repeated = refl;
      upper_digits = refl;
      longest = refl;
    }

pub fault_examples : FaultExamples
unfolding opened
fault_examples =
    record {
      setting_first = refl;
      empty = refl;
      no_line_feed = refl;
      other_line_end = refl;
      odd = refl;
      too_few = refl;
      eleven_digits = refl;
      thirteen_digits = refl;
      four_count_digits = refl;
      lower_case = refl;
      no_case = refl;
      malformed_before_unknown = refl;
      malformed_before_too_large = refl;
      too_large_before_unknown = refl;
      unknown = refl;
      unknown_before_misplaced = refl;
      first_not_start = refl;
      last_not_end = refl;
      last_is_start = refl;
      start_inside = refl;
      end_inside = refl;
      last_line = refl;
      line_too_many = refl;
      first_faulty_line = refl;
    }
