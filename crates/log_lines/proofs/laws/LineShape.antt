-- A line by what its two parts say, its count and its activities: where either is malformed so is
-- the line, and else its length, its case count and the faults of its trace are those that the
-- parts give. The digits of the count are the line's first bytes, and what is left of the line is
-- the first line of the text after them.
-- Assumes nothing.
use Rattle.std.specs.Prelude.{None, Some, Ok, Err}
use Prim.Native.Nat.{ℕ, ◌+◌, ◌-◌, ◌%◌, ◌≤◌, ◌<◌}
use mathlib.Core.Path.{◌≡◌, refl, sym, ap, ◌∙◌}
use mathlib.Core.Bool.{Bool, true, false, not, ◌&&◌, and-eq-true_iff}
use mathlib.Core.List.{List, [], ◌∷◌, ◌++◌}
use native.Mathlib.Numerals.{add-one}
use native.Mathlib.Omega.{arith}
use borrow.Author.Tests.{le-leb, leb-true, eq-eqb, eqb-true, eqb-false, ne_eqb, not-true, not-false}
use lib.Dec.{eqb, leb}
use lib.ListN.{length, take, drop, take-append-drop, length-append}
use lib.Seq.{take-append-le, take_at, drop_at, drop-drop, length-take-le}
use Rattle.foundation.specs.Lists.{each_nil, each_cons}
use Rattle.std.specs.List.{list_all}
use Rattle.foundation.proofs.laws.Booleans.{by_test, impossible}
use Rattle.foundation.proofs.laws.Each.{each_append, each_back, each_take, all_each, each_all}
use Rattle.limits.specs.declared.Refusal.{Refusal}
use Rattle.limits.specs.declared.Refusal.TheVariants.{MalformedFrame, UnknownActivity, MisplacedEndpoint, TooLarge}
use Rattle.log_lines.specs.declared.Activities.{Activities}
use Rattle.hex_digits.specs.Digits.{is_digit, read_hex, line_feed}
use Rattle.event_log_spec.specs.Frames.{count_digits, most_events, most_frames, shortest_frame, longest_frame}
use Rattle.event_log_spec.specs.Lines.{Line, first_line, read_pairs, frame_of, frame_with}
use Rattle.event_log_spec.specs.Checking.{malformed, names_unknown, endpoint_misplaced}
use Rattle.log_lines.specs.Reading.{count_in, in_pairs, activities, activities_in, checked_line, line_checked}
use Rattle.event_log_spec.proofs.laws.Lines.{first_none, first_feed, first_byte}
use Rattle.hex_digits.proofs.laws.DigitLaws.{EachDigit}
use Rattle.event_log_spec.proofs.laws.TextLines.{digit_no_feed}
use Rattle.event_log_spec.proofs.laws.LineFaults.{FaultOrder, Readable, index_large, line_malformed, trace_long, code_unknown, endpoint_misplaced_lem, no_fault, fault_order}
use Rattle.event_log_spec.proofs.laws.FrameLines.{WellFormed, well_formed, not_malformed, trace_length}

-- a text begins with the bytes of its first line
first_prefix : (text : List ℕ) → (more : List ℕ) × (text ≡ (first_line text).bytes ++ more)
first_prefix [] = ([], rw first_none)
first_prefix (byte ∷ text) =
    by_test
    (eqb byte line_feed)
    (λ e. (byte ∷ text, rw (eqb-true byte line_feed e, first_feed text)))
    (λ e. let (more, h) = first_prefix text in (more, rw (first_byte byte text (eqb-false byte line_feed e)) (ap (◌∷◌ byte) h)))

-- digits at the front of a text are the front of its first line
first_digits : {digits : List ℕ} (text : List ℕ) → EachDigit digits
    → first_line (digits ++ text) ≡ record { bytes = digits ++ (first_line text).bytes; ended = (first_line text).ended }
first_digits text each_nil = refl
first_digits text (each_cons {x = byte} {xs = digits} digit later) =
    rw (first_byte byte (digits ++ text) (digit_no_feed byte digit), first_digits text later)

-- a text that begins with a count of n cases
pub record Counted (text : List ℕ) (n : ℕ) : Type 0 where
  pub enough : count_digits ≤ length text
  pub digits : EachDigit (take count_digits text)
  pub number : read_hex (take count_digits text) ≡ n
  pub positive : 1 ≤ n

-- the test of a count at the front of a text
abbrev has_count : List ℕ → Bool
has_count text = leb count_digits (length text) && list_all is_digit (take count_digits text) && not (eqb (read_hex (take count_digits text)) 0)

counted_front : (text : List ℕ) → has_count text ≡ true → Counted text (read_hex (take count_digits text))
counted_front text e =
    let long = leb count_digits (length text) in
    let digits = list_all is_digit (take count_digits text) in
    let zero = eqb (read_hex (take count_digits text)) 0 in
    let parts₂ = (and-eq-true_iff (long && digits) (not zero)).0 e in
    let parts₁ = (and-eq-true_iff long digits).0 parts₂.0 in
    record {
      enough = leb-true count_digits (length text) parts₁.0;
      digits = all_each is_digit (take count_digits text) parts₁.1;
      number = refl;
      positive =
          let h : read_hex (take count_digits text) ≡ 0 → ⊥ = eqb-false (read_hex (take count_digits text)) 0 (not-true zero parts₂.1) in
          omega arith;
    }

pub counted : (text : List ℕ) (n : ℕ) → count_in text ≡ Some n → Counted text n
unfolding count_in
counted text n e =
    by_test
    (has_count text)
    (λ f. let g = rw f at e in let same : read_hex (take count_digits text) ≡ n = cc in rw same at (counted_front text f))
    (λ f. let g = rw f at e in impossible (cc))

-- a line that is not malformed begins with a count
formed_count : (text : List ℕ) → WellFormed (first_line text) → has_count text ≡ true
unfolding frame_with
formed_count text w =
    let bytes = (first_line text).bytes in
    let (more, whole) = first_prefix text in
    let front : take count_digits text ≡ take count_digits bytes
    = ap (take count_digits) whole ∙ take-append-le count_digits bytes more (omega (arith, w.enough)) in
    let long : count_digits ≤ length text
    = omega (arith, w.enough, ap length whole ∙ length-append bytes more) in
    rw (
      le-leb count_digits (length text) long,
      front,
      each_all is_digit (each_take count_digits w.digits),
      ne_eqb (read_hex (take count_digits bytes)) 0 (λ (z : read_hex (take count_digits bytes) ≡ 0). omega (arith, w.counted)),
    )

pub no_count : (text : List ℕ) → count_in text ≡ None → malformed (first_line text) ≡ true
unfolding count_in
no_count text e =
    by_test
    (malformed (first_line text))
    (λ m. m)
    (λ m. let g = rw (formed_count text (well_formed (first_line text) m)) at e in impossible (cc))

-- a line whose count is n and whose activities are read as `read`; it begins at `from`
pub record LineShape (A from n : ℕ) (read : Activities) (l : Line) : Type 0 where
  pub feed : l.ended ≡ true
  pub even : length l.bytes % 2 ≡ 0
  pub digits : EachDigit l.bytes
  pub cases : (frame_of l).cases ≡ n
  pub positive : 1 ≤ n
  pub ends : from + length l.bytes ≡ read.end
  pub long : count_digits ≤ length l.bytes
  pub names : names_unknown A (frame_of l).trace ≡ read.unknown
  pub places : endpoint_misplaced (frame_of l).trace ≡ read.misplaced

module _ (text : List ℕ) (n : ℕ) (c : Counted text n) where
  -- what is left of the line after its count
  abbrev rest : Line
  rest = first_line (drop count_digits text)

  -- the line is its count and what is left
  line_parts : first_line text ≡ record { bytes = take count_digits text ++ rest.bytes; ended = rest.ended }
  line_parts = ap first_line (sym (take-append-drop count_digits text)) ∙ first_digits (drop count_digits text) c.digits

  front_length : length (take count_digits text) ≡ count_digits
  front_length = length-take-le count_digits text c.enough

  whole_length : length (take count_digits text ++ rest.bytes) ≡ count_digits + length rest.bytes
  whole_length = length-append (take count_digits text) rest.bytes ∙ ap (λ (k : ℕ). k + length rest.bytes) front_length

  -- the parts of a line in pairs
  record InPairs : Type 0 where
    feed : rest.ended ≡ true
    even : length rest.bytes % 2 ≡ 0
    digits : EachDigit rest.bytes

  in_pairs_lem : in_pairs rest ≡ true → InPairs
  unfolding in_pairs
  in_pairs_lem e =
      let even = eqb (length rest.bytes % 2) 0 in
      let digits = list_all is_digit rest.bytes in
      let parts₂ = (and-eq-true_iff (rest.ended && even) digits).0 e in
      let parts₁ = (and-eq-true_iff rest.ended even).0 parts₂.0 in
      record {
        feed = parts₁.0;
        even = eqb-true (length rest.bytes % 2) 0 parts₁.1;
        digits = all_each is_digit rest.bytes parts₂.1;
      }

  -- a line that is not malformed is in pairs after its count
  formed_pairs : WellFormed (first_line text) → in_pairs rest ≡ true
  unfolding in_pairs
  formed_pairs w =
      let v : WellFormed (record { bytes = take count_digits text ++ rest.bytes; ended = rest.ended }) = rw line_parts at w in
      rw (
        v.feed,
        eq-eqb (length rest.bytes % 2) 0 (omega (arith, v.even, whole_length)),
        each_all is_digit (each_back (take count_digits text) rest.bytes v.digits),
      )

  pub no_activities : (A from : ℕ) → activities_in A from rest ≡ None → malformed (first_line text) ≡ true
  unfolding activities_in
  no_activities A from e =
      by_test
      (malformed (first_line text))
      (λ m. m)
      (λ m. let g = rw (formed_pairs (well_formed (first_line text) m)) at e in impossible (cc))

  -- what the activities say, where they are in pairs
  record Said (A from : ℕ) (read : Activities) : Type 0 where
    pairs : InPairs
    ends : from + length rest.bytes ≡ read.end
    names : names_unknown A (read_pairs rest.bytes) ≡ read.unknown
    places : endpoint_misplaced (read_pairs rest.bytes) ≡ read.misplaced

  said : (A from : ℕ) (read : Activities) → activities_in A from rest ≡ Some read → Said A from read
  unfolding activities_in
  said A from read e =
      by_test
      (in_pairs rest)
      (λ f. let g = rw f at e in let same : activities (from + length rest.bytes) (names_unknown A (read_pairs rest.bytes)) (endpoint_misplaced (read_pairs rest.bytes)) ≡ read = cc in record { pairs = in_pairs_lem f; ends = ap (λ (a : Activities). a.end) same; names = ap (λ (a : Activities). a.unknown) same; places = ap (λ (a : Activities). a.misplaced) same })
      (λ f. let g = rw f at e in impossible (cc))

  pub line_shape : (A from : ℕ) (read : Activities) → activities_in A (from + count_digits) rest ≡ Some read
      → LineShape A from n read (first_line text)
  unfolding frame_with
  line_shape A from read e =
      let s = said A (from + count_digits) read e in
      let front = take count_digits text in
      let bytes = rest.bytes in
      rw line_parts
      record {
        feed = s.pairs.feed;
        even = omega (arith, s.pairs.even, whole_length);
        digits = each_append c.digits s.pairs.digits;
        cases = ap read_hex (take_at front bytes count_digits front_length) ∙ c.number;
        positive = c.positive;
        ends = omega (arith, s.ends, whole_length);
        long = omega (arith, whole_length);
        names = rw (drop_at front bytes count_digits front_length) s.names;
        places = rw (drop_at front bytes count_digits front_length) s.places;
      }

-- what the shape of a line decides
module _ {A from n : ℕ} {read : Activities} {l : Line} (s : LineShape A from n read l) where
  pub shape_short : read.end - from < shortest_frame → malformed l ≡ true
  shape_short short =
      by_test (malformed l) (λ m. m) (λ m. absurd (omega (arith, (well_formed l m).enough, s.ends)))

  pub shape_formed : shortest_frame ≤ read.end - from → malformed l ≡ false
  shape_formed enough =
      not_malformed
      (record {
        feed = s.feed;
        even = s.even;
        enough = omega (arith, s.ends);
        digits = s.digits;
        counted = rw s.cases s.positive;
      })

  pub shape_long : longest_frame < read.end - from → most_events < length (frame_of l).trace
  shape_long h = rw (trace_length l) (omega (arith, s.ends))

  pub shape_fits : read.end - from ≤ longest_frame → length (frame_of l).trace ≤ most_events
  shape_fits h = rw (trace_length l) (omega (arith, s.ends))

-- what checking a line answers, by what is read of it step by step
module _ (A line from : ℕ) (text : List ℕ) where
  faulty : {r : Refusal} → FaultOrder A line (first_line (drop from text)) (Some r) → line_checked A line from (first_line (drop from text)) ≡ Err r
  unfolding line_checked
  faulty {r} f = rw ((fault_order A line (first_line (drop from text)) (Some r)).1 f)

  pub many_lines : most_frames ≤ line → line_checked A line from (first_line (drop from text)) ≡ Err (TooLarge line)
  many_lines many = faulty (index_large many)

  module _ (few : line < most_frames) where
    pub count_malformed : count_in (drop from text) ≡ None → line_checked A line from (first_line (drop from text)) ≡ Err (MalformedFrame line)
    count_malformed e = faulty (line_malformed few (no_count (drop from text) e))

    module _ (n : ℕ) (count : count_in (drop from text) ≡ Some n) where
      pub activities_malformed : activities_in A (from + count_digits) (first_line (drop (from + count_digits) text)) ≡ None
          → line_checked A line from (first_line (drop from text)) ≡ Err (MalformedFrame line)
      activities_malformed e = faulty (line_malformed few (no_activities (drop from text) n (counted (drop from text) n count) A (from + count_digits) (rw drop-drop e)))

      module _ (read : Activities) (acts : activities_in A (from + count_digits) (first_line (drop (from + count_digits) text)) ≡ Some read) where
        shape : LineShape A from n read (first_line (drop from text))
        shape = line_shape (drop from text) n (counted (drop from text) n count) A from read (rw drop-drop acts)

        pub short_line : read.end - from < shortest_frame → line_checked A line from (first_line (drop from text)) ≡ Err (MalformedFrame line)
        short_line short = faulty (line_malformed few (shape_short shape short))

        module _ (enough : shortest_frame ≤ read.end - from) where
          pub long_line : longest_frame < read.end - from → line_checked A line from (first_line (drop from text)) ≡ Err (TooLarge line)
          long_line long = faulty (trace_long few (shape_formed shape enough) (shape_long shape long))

          module _ (fits : read.end - from ≤ longest_frame) where
            readable : Readable line (first_line (drop from text))
            readable = record { few = few; formed = shape_formed shape enough; short = shape_fits shape fits }

            pub unknown_line : not read.unknown ≡ false → line_checked A line from (first_line (drop from text)) ≡ Err (UnknownActivity line)
            unknown_line t = faulty (code_unknown readable (shape.names ∙ not-false read.unknown t))

            pub misplaced_line : not read.unknown ≡ true → not read.misplaced ≡ false → line_checked A line from (first_line (drop from text)) ≡ Err (MisplacedEndpoint line)
            misplaced_line f t = faulty (endpoint_misplaced_lem readable (shape.names ∙ not-true read.unknown f) (shape.places ∙ not-false read.misplaced t))

            pub sound_line : read.unknown ≡ false → read.misplaced ≡ false
                → line_checked A line from (first_line (drop from text)) ≡ Ok (checked_line (read.end + 1) n)
            unfolding line_checked
            sound_line f g =
                rw (
                  (fault_order A line (first_line (drop from text)) None).1 (no_fault readable (shape.names ∙ f) (shape.places ∙ g)),
                  shape.ends,
                  shape.cases,
                  add-one read.end,
                )

pub ruleset line_steps = (many_lines, count_malformed, activities_malformed, short_line, long_line, unknown_line, misplaced_line, sound_line)
