-- Reading the activities of a line in one pass. `scan` reads on from where a pass stands, pair by
-- pair, and answers what the definitions say of the line that begins there: by induction on the
-- bytes that are left, two at a time.
-- Assumes nothing.
use Rattle.std.specs.Prelude.{Option, None, Some, option_and_then}
use Prim.Native.Nat.{ℕ, suc, ◌+◌, ◌-◌, ◌%◌, ◌≤◌, ◌<◌}
use mathlib.Core.Path.{◌≡◌, refl, sym, ◌∙◌}
use mathlib.Core.Bool.{Bool, true, false, cond, ◌||◌, and-eq-true_iff, and-true, and-false, or-false, or_assoc}
use mathlib.Core.List.{List, [], ◌∷◌}
use native.Mathlib.Nat.{add-zero}
use native.Mathlib.Omega.{arith}
use borrow.Author.Tests.{eqb-true, eqb-false, ne_eqb}
use lib.Dec.{eqb, leb}
use lib.ListN.{length, take, drop, get_or, length-drop}
use Rattle.std.specs.List.{list_all, list_any, fold}
use Rattle.foundation.proofs.laws.Booleans.{by_test}
use Rattle.log_lines.specs.declared.Activities.{Activities}
use Rattle.log_lines.specs.declared.Phase.{Phase}
use Rattle.log_lines.specs.declared.Phase.TheVariants.{Before}
use Rattle.hex_digits.specs.Digits.{is_digit, read_hex, number_in, line_feed}
use Rattle.event_log_spec.specs.Lines.{Line, first_line, read_pairs}
use Rattle.event_log_spec.specs.Checking.{names_unknown}
use Rattle.log_lines.specs.Reading.{next_phase, incomplete, in_pairs, activities, activities_in}
use Rattle.event_log_spec.proofs.laws.Lines.{with_byte, first_none, first_feed, first_byte}
use Rattle.event_log_spec.proofs.laws.TextLines.{digit_no_feed}
use Rattle.hex_digits.proofs.laws.NumberLaws.{digits_number, others_no_number}
use Rattle.log_lines.proofs.laws.Phases.{phases_misplaced}

-- the line feed stands at `at`
abbrev pub ended : ℕ → Phase → Bool → Option Activities
ended at phase unknown = Some (activities at unknown (incomplete phase))

unfoldable pub scan : ℕ → ℕ → Phase → Bool → List ℕ → Option Activities
scan A at phase unknown [] = None
scan A at phase unknown (first ∷ []) = cond (eqb first line_feed) (ended at phase unknown) None
scan A at phase unknown (first ∷ (second ∷ bytes)) =
    cond
    (eqb first line_feed)
    (ended at phase unknown)
    (option_and_then
    (λ (code : ℕ). scan A (at + 2) (next_phase phase code) (unknown || leb A code) bytes)
    (number_in (first ∷ second ∷ [])))

-- what the definitions say where a pass stands, at `at`, having read some events
abbrev reading : ℕ → ℕ → Phase → Bool → Line → Option Activities
reading A at phase unknown l =
    cond
    (in_pairs l)
    (ended
    (at + length l.bytes)
    (fold next_phase phase (read_pairs l.bytes))
    (unknown || list_any (leb A) (read_pairs l.bytes)))
    None

even : (n : ℕ) → suc (suc n) % 2 ≡ n % 2
even n = omega arith

further : (at n : ℕ) → at + suc (suc n) ≡ at + 2 + n
further at n = omega arith

module _ (A at : ℕ) (phase : Phase) (unknown : Bool) where
  -- at the line feed
  at_feed : reading A at phase unknown (record { bytes = []; ended = true }) ≡ ended at phase unknown
  unfolding in_pairs read_pairs
  at_feed = rw (add-zero at, or-false unknown)

  -- at a byte that is no digit
  at_other : (byte : ℕ) (l : Line) → is_digit byte ≡ false → reading A at phase unknown (with_byte byte l) ≡ None
  unfolding in_pairs
  at_other byte l e = rw (e, and-false)

  -- at a digit with another byte after it that is none
  after_digit : (first second : ℕ) (bytes : List ℕ) → is_digit second ≡ false
      → reading A at phase unknown (with_byte first (first_line (second ∷ bytes))) ≡ None
  unfolding in_pairs
  after_digit first second bytes e =
      by_test
      (eqb second line_feed)
      (λ f. rw (eqb-true second line_feed f, first_feed bytes))
      (λ f. rw (first_byte second bytes (eqb-false second line_feed f), e, and-false, and-false))

  -- over two digits
  over_pair : (first second : ℕ) (l : Line) → is_digit first ≡ true → is_digit second ≡ true
      → reading A at phase unknown (with_byte first (with_byte second l))
      ≡ reading A (at + 2) (next_phase phase (read_hex (first ∷ second ∷ []))) (unknown || leb A (read_hex (first ∷ second ∷ []))) l
  unfolding in_pairs read_pairs
  over_pair first second l e f = rw (e, f, even (length l.bytes), further at (length l.bytes), or_assoc)

  -- at the end of the text
  at_nothing : None ≡ reading A at phase unknown (first_line [])
  unfolding in_pairs
  at_nothing = rw first_none

  -- at its last byte
  at_end : (first : ℕ) → eqb first line_feed ≡ false → None ≡ reading A at phase unknown (first_line (first ∷ []))
  unfolding in_pairs
  at_end first e = rw (first_byte first [] (eqb-false first line_feed e), first_none)

  -- at the line feed of the text
  at_first_feed : (first : ℕ) (bytes : List ℕ) → eqb first line_feed ≡ true
      → ended at phase unknown ≡ reading A at phase unknown (first_line (first ∷ bytes))
  at_first_feed first bytes e = rw (eqb-true first line_feed e, first_feed bytes, at_feed)

  -- at two bytes of which one is no digit
  at_non_digits : (first second : ℕ) (bytes : List ℕ) → eqb first line_feed ≡ false → list_all is_digit (first ∷ second ∷ []) ≡ false
      → None ≡ reading A at phase unknown (first_line (first ∷ second ∷ bytes))
  at_non_digits first second bytes e f =
      rw (first_byte first (second ∷ bytes) (eqb-false first line_feed e))
      (by_test
      (is_digit first)
      (λ d. sym (after_digit first second bytes (rw (d, and-true (is_digit second)) at f)))
      (λ d. sym (at_other first (first_line (second ∷ bytes)) d)))

-- two digits begin a line
first_pair : (first second : ℕ) (bytes : List ℕ) → is_digit first ≡ true → is_digit second ≡ true
    → first_line (first ∷ second ∷ bytes) ≡ with_byte first (with_byte second (first_line bytes))
first_pair first second bytes e f =
    rw (first_byte first (second ∷ bytes) (digit_no_feed first e), first_byte second bytes (digit_no_feed second f))

scan_reads : (A at : ℕ) (phase : Phase) (unknown : Bool) (bytes : List ℕ)
    → scan A at phase unknown bytes ≡ reading A at phase unknown (first_line bytes)
unfolding scan
scan_reads A at phase unknown [] = at_nothing A at phase unknown
scan_reads A at phase unknown (first ∷ []) =
    by_test
    (eqb first line_feed)
    (λ e. rw e (at_first_feed A at phase unknown first [] e))
    (λ e. rw e (at_end A at phase unknown first e))
scan_reads A at phase unknown (first ∷ (second ∷ bytes)) =
    by_test
    (eqb first line_feed)
    (λ e. rw e (at_first_feed A at phase unknown first (second ∷ bytes) e))
    (λ e. by_test
    (list_all is_digit (first ∷ second ∷ []))
    (λ f. rw (e, digits_number (first ∷ second ∷ []) f)
    (let d = (and-eq-true_iff (is_digit first) (is_digit second)).0 (rw (and-true (is_digit second)) at f) in
    rw (
      first_pair first second bytes d.0 d.1,
      over_pair A at phase unknown first second (first_line bytes) d.0 d.1,
    )
    (scan_reads A (at + 2) (next_phase phase (read_hex (first ∷ second ∷ []))) (unknown || leb A (read_hex (first ∷ second ∷ []))) bytes)))
    (λ f. rw (e, others_no_number (first ∷ second ∷ []) f) (at_non_digits A at phase unknown first second bytes e f)))

-- a pass from the first activity of a line
pub scan_first : (A from : ℕ) (bytes : List ℕ) → scan A from Before false bytes ≡ activities_in A from (first_line bytes)
unfolding activities_in names_unknown
scan_first A from bytes = rw (← phases_misplaced) (scan_reads A from Before false bytes)

-- a pass by what it begins with
module _ (A at : ℕ) (phase : Phase) (unknown : Bool) where
  -- two bytes that are no line feed
  scan_pair : (rest : List ℕ) → 2 ≤ length rest → (get_or rest 0 0 ≡ line_feed → ⊥)
      → scan A at phase unknown rest
      ≡ option_and_then
      (λ (code : ℕ). scan A (at + 2) (next_phase phase code) (unknown || leb A code) (drop 2 rest))
      (number_in (take 2 rest))
  unfolding scan
  scan_pair [] two other = absurd (omega arith)
  scan_pair (first ∷ []) two other = absurd (omega arith)
  scan_pair (first ∷ (second ∷ bytes)) two other = rw (ne_eqb first line_feed other)

  -- a line feed, whatever follows it
  scan_feed : (rest : List ℕ) → 1 ≤ length rest → get_or rest 0 0 ≡ line_feed → scan A at phase unknown rest ≡ ended at phase unknown
  unfolding scan
  scan_feed [] some e = absurd (omega arith)
  scan_feed (first ∷ []) some e = rw e
  scan_feed (first ∷ (second ∷ bytes)) some e = rw e

  -- a byte that is none, and nothing after it
  scan_short : (rest : List ℕ) → length rest < 2 → (get_or rest 0 0 ≡ line_feed → ⊥) → scan A at phase unknown rest ≡ None
  unfolding scan
  scan_short [] short other = refl
  scan_short (first ∷ []) short other = rw (ne_eqb first line_feed other)
  scan_short (first ∷ (second ∷ bytes)) short other = absurd (omega arith)

-- the pass over a line stands where the text goes on with `rest`, and answers what the pass over the
-- whole line does
pub record ReadTo (A from : ℕ) (line : List ℕ) (phase : Phase) (unknown : Bool) (rest : List ℕ) : Type 0 where
  pub inside : length rest ≤ length line
  pub so_far : scan A (from + (length line - length rest)) phase unknown rest ≡ activities_in A from (first_line line)

module _ {A from : ℕ} {line : List ℕ} where
  pub none_read : ReadTo A from line Before false line
  none_read =
      let here : from + (length line - length line) ≡ from = omega arith in
      record { inside = omega arith; so_far = rw here (scan_first A from line) }

  module _ {phase : Phase} {unknown : Bool} {rest : List ℕ} (r : ReadTo A from line phase unknown rest) where
    -- two digits more
    pub pair_read : 2 ≤ length rest → (get_or rest 0 0 ≡ line_feed → ⊥) → (code : ℕ) → number_in (take 2 rest) ≡ Some code
        → ReadTo A from line (next_phase phase code) (unknown || leb A code) (drop 2 rest)
    pair_read two other code e =
        let at = from + (length line - length rest) in
        let further : from + (length line - length (drop 2 rest)) ≡ at + 2 = omega (arith, length-drop 2 rest, r.inside) in
        record {
          inside = omega (arith, length-drop 2 rest, r.inside);
          so_far = rw further (rw (scan_pair A at phase unknown rest two other, e) at r.so_far);
        }

    -- two bytes that are no digits
    pub others_read : 2 ≤ length rest → (get_or rest 0 0 ≡ line_feed → ⊥) → number_in (take 2 rest) ≡ None
        → activities_in A from (first_line line) ≡ None
    others_read two other e = sym r.so_far ∙ rw (scan_pair A _ phase unknown rest two other, e)

    -- the line feed
    pub feed_read : 1 ≤ length rest → get_or rest 0 0 ≡ line_feed
        → activities_in A from (first_line line) ≡ ended (from + (length line - length rest)) phase unknown
    feed_read some e = sym r.so_far ∙ scan_feed A _ phase unknown rest some e

    -- no two bytes are left, nor a line feed
    pub short_read : length rest < 2 → (get_or rest 0 0 ≡ line_feed → ⊥) → activities_in A from (first_line line) ≡ None
    short_read short other = sym r.so_far ∙ scan_short A _ phase unknown rest short other

pub ruleset pairs_read = (none_read, pair_read, others_read, feed_read, short_read)
