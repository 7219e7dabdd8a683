-- One line: it has no fault exactly when it is the written form of a frame that a log may have, and
-- then that frame is the one read from it. The count and the activities are read back digit by
-- digit, and the checks of the trace are those of the written form.
-- Assumes nothing.
use Rattle.std.specs.Prelude.{None}
use Prim.Native.Nat.{ℕ, ◌+◌, ◌-◌, ◌*◌, ◌/◌, ◌%◌, ◌^◌, ◌≤◌, ◌<◌}
use native.Mathlib.Omega.{arith}
use mathlib.Core.Path.{◌≡◌, refl, sym, ap, ap₂, subst, ◌∙◌}
use mathlib.Core.Bool.{true, false, not, ◌||◌}
use mathlib.Core.List.{◌++◌, flat_map}
use borrow.Author.Tests.{not-false, eqb-false, ltb-false, ne_eqb, le-ltb}
use lib.Dec.{eqb, ltb}
use lib.ListN.{length, take, drop, length-append, length-drop, take-append-drop}
use lib.Seq.{length-take-le, take_at, drop_at}
use Rattle.foundation.specs.Lists.{Each}
use Rattle.std.specs.List.{list_all}
use Rattle.foundation.proofs.laws.Booleans.{or_false_parts}
use Rattle.foundation.proofs.laws.Each.{each_imply, each_append, each_take, each_drop, all_each, each_all}
use Rattle.hex_digits.specs.Digits.{is_digit, read_hex, write_hex}
use Rattle.event_log_spec.specs.Frames.{Frame, FrameUnder, count_digits, most_frames}
use Rattle.event_log_spec.specs.Lines.{Line, read_pairs, frame_of, frame_with}
use Rattle.event_log_spec.specs.Checking.{malformed, malformed_with, names_unknown, endpoint_misplaced, line_fault}
use Rattle.hex_digits.proofs.laws.DigitLaws.{EachDigit, read_small, read_write, write_read, length_write, write_digits}
use Rattle.event_log_spec.proofs.laws.PairLaws.{read_pairs_lem, write_pairs, length_pairs, length_read_pairs, pairs_digits}
use Rattle.event_log_spec.proofs.laws.TraceLaws.{all_known, none_unknown, placed_behaviour, behaviour_placed}
use Rattle.event_log_spec.proofs.laws.LineFaults.{Readable, FaultOrder, no_fault, fault_order}

-- the line that a frame is written as
abbrev pub frame_line : Frame → Line
frame_line f = record { bytes = write_hex count_digits f.cases ++ flat_map (write_hex 2) f.trace; ended = true }

-- a line that is not malformed
pub record WellFormed (l : Line) : Type 0 where
  pub feed : l.ended ≡ true
  pub even : length l.bytes % 2 ≡ 0
  pub enough : count_digits + 4 ≤ length l.bytes
  pub digits : EachDigit l.bytes
  pub counted : 1 ≤ (frame_of l).cases

pub well_formed : (l : Line) → malformed l ≡ false → WellFormed l
unfolding malformed_with
well_formed l e =
    let no_feed = not l.ended in
    let odd = eqb (length l.bytes % 2) 1 in
    let few = ltb (length l.bytes) (count_digits + 4) in
    let other = not (list_all is_digit l.bytes) in
    let parts₄ = or_false_parts (no_feed || odd || few || other) (eqb (frame_of l).cases 0) e in
    let parts₃ = or_false_parts (no_feed || odd || few) other parts₄.0 in
    let parts₂ = or_false_parts (no_feed || odd) few parts₃.0 in
    let parts₁ = or_false_parts no_feed odd parts₂.0 in
    record {
      feed = not-false l.ended parts₁.0;
      even = let h : length l.bytes % 2 ≡ 1 → ⊥ = eqb-false (length l.bytes % 2) 1 parts₁.1 in omega arith;
      enough = ltb-false (length l.bytes) (count_digits + 4) parts₂.1;
      digits = all_each is_digit l.bytes (not-false (list_all is_digit l.bytes) parts₃.1);
      counted = let h : (frame_of l).cases ≡ 0 → ⊥ = eqb-false (frame_of l).cases 0 parts₄.1 in omega arith;
    }

pub not_malformed : {l : Line} → WellFormed l → malformed l ≡ false
unfolding malformed_with
not_malformed {l} w =
    rw (
      ne_eqb (frame_of l).cases 0 (λ h. omega arith),
      w.feed,
      ne_eqb (length l.bytes % 2) 1 (λ h. omega arith),
      le-ltb (length l.bytes) (count_digits + 4) w.enough,
      each_all is_digit w.digits,
    )

pub front_length : {l : Line} → WellFormed l → length (take count_digits l.bytes) ≡ count_digits
front_length {l} w = length-take-le count_digits l.bytes (omega (arith, w.enough))

pub trace_length : (l : Line) → length (frame_of l).trace ≡ (length l.bytes - count_digits) / 2
unfolding frame_with
trace_length l = rw (length_read_pairs (drop count_digits l.bytes), length-drop count_digits l.bytes)

count_fits : {l : Line} → WellFormed l → (frame_of l).cases < 16 ^ count_digits
unfolding frame_with
count_fits {l} w =
    let front = take count_digits l.bytes in
    subst (λ (k : ℕ). read_hex front < 16 ^ k) (front_length w) (read_small front)

count_written : {l : Line} → WellFormed l → write_hex count_digits (frame_of l).cases ≡ take count_digits l.bytes
unfolding frame_with
count_written {l} w =
    let front = take count_digits l.bytes in
    subst (λ (k : ℕ). write_hex k (read_hex front) ≡ front) (front_length w) (write_read front (each_take count_digits w.digits))

trace_written : {l : Line} → WellFormed l → flat_map (write_hex 2) (frame_of l).trace ≡ drop count_digits l.bytes
unfolding frame_with
trace_written {l} w =
    let back = drop count_digits l.bytes in
    let even : length back % 2 ≡ 0 = rw (length-drop count_digits l.bytes) (omega arith) in
    write_pairs back even (each_drop count_digits w.digits)

-- the bytes of a well-formed line are its frame's
bytes_written : {l : Line} → WellFormed l → l.bytes ≡ (frame_line (frame_of l)).bytes
bytes_written {l} w = sym (ap₂ ◌++◌ (count_written w) (trace_written w) ∙ take-append-drop count_digits l.bytes)

pub line_written : {l : Line} → WellFormed l → l ≡ frame_line (frame_of l)
line_written w = λ i. record { bytes = bytes_written w i; ended = w.feed i }

pub frame_back : (f : Frame) → f.cases < 16 ^ count_digits → Each (λ (a : ℕ). a < 256) f.trace → frame_of (frame_line f) ≡ f
unfolding frame_with
frame_back f countable small =
    let count = write_hex count_digits f.cases in
    let pairs = flat_map (write_hex 2) f.trace in
    let four = length_write count_digits f.cases in
    λ i. record {
      cases = (ap read_hex (take_at count pairs count_digits four) ∙ read_write count_digits f.cases countable) i;
      trace = (ap read_pairs (drop_at count pairs count_digits four) ∙ read_pairs_lem small) i;
    }

pub frame_digits : (f : Frame) → EachDigit (frame_line f).bytes
frame_digits f = each_append (write_digits count_digits f.cases) (pairs_digits f.trace)

pub length_line : (f : Frame) → length (frame_line f).bytes ≡ count_digits + 2 * length f.trace
length_line f =
    length-append (write_hex count_digits f.cases) (flat_map (write_hex 2) f.trace)
    ∙ ap₂ ◌+◌ (length_write count_digits f.cases) (length_pairs f.trace)

-- a line that is the written form of a frame under A, its own
pub record FramedLine (A : ℕ) (l : Line) : Type 0 where
  pub written : l ≡ frame_line (frame_of l)
  pub under : FrameUnder A (frame_of l)

pub under_back : {A : ℕ} {f : Frame} → A ≤ 256 → FrameUnder A f → frame_of (frame_line f) ≡ f
under_back {f = f} narrow u = frame_back f (omega (arith, u.countable)) (each_imply (λ a h. omega arith) u.known)

pub frame_formed : {A : ℕ} {f : Frame} → A ≤ 256 → FrameUnder A f → WellFormed (frame_line f)
frame_formed {f = f} narrow u =
    let size = length_line f in
    record {
      feed = refl;
      even = rw size (omega arith);
      enough = rw size (omega (arith, u.long));
      digits = frame_digits f;
      counted = rw (under_back narrow u) (omega (arith, u.counted));
    }

module _ (A k : ℕ) where
  frame_readable : {f : Frame} → A ≤ 256 → k < most_frames → FrameUnder A f → Readable k (frame_line f)
  frame_readable narrow few u =
      record { few = few; formed = not_malformed (frame_formed narrow u); short = rw (under_back narrow u) u.short }

  pub frame_no_fault : {f : Frame} → A ≤ 256 → k < most_frames → FrameUnder A f → line_fault A k (frame_line f) ≡ None
  frame_no_fault {f} narrow few u =
      let back = under_back narrow u in
      (fault_order A k (frame_line f) None).1
      (no_fault (frame_readable narrow few u) (rw back (none_unknown A u.known)) (rw back (behaviour_placed u.behaviour)))

  readable_under : {l : Line} → Readable k l → names_unknown A (frame_of l).trace ≡ false → endpoint_misplaced (frame_of l).trace ≡ false
      → FrameUnder A (frame_of l)
  readable_under {l} r known placed =
      let w = well_formed l r.formed in
      let trace = (frame_of l).trace in
      let long : 2 ≤ length trace = rw (trace_length l) (omega (arith, w.enough)) in
      record {
        counted = w.counted;
        countable = count_fits w;
        long = long;
        short = r.short;
        known = all_known A trace known;
        behaviour = placed_behaviour trace long placed;
      }

  framed : {l : Line} → FaultOrder A k l None → (k < most_frames) × FramedLine A l
  framed {l} (no_fault r known placed) =
      (r.few, record { written = line_written (well_formed l r.formed); under = readable_under r known placed })

  pub no_fault_framed : (l : Line) → line_fault A k l ≡ None → (k < most_frames) × FramedLine A l
  no_fault_framed l e = framed ((fault_order A k l None).0 e)
