-- The settings frame: it is malformed where it is too short, where no line feed stands behind its
-- digits, or where a byte of one of its numbers is no digit; else its settings are those numbers.
-- The digits of the frame are those of its four numbers, one after the other.
-- Assumes nothing.
use Rattle.std.specs.Prelude.{None, Some}
use Prim.Native.Nat.{ℕ, ◌+◌, ◌*◌, ◌≤◌, ◌<◌}
use native.Mathlib.Omega.{arith}
use mathlib.Core.Path.{◌≡◌}
use mathlib.Core.Bool.{true, false, and-false}
use mathlib.Core.List.{List}
use lib.Dec.{ltb}
use lib.ListN.{length, take, drop, get_or, get_or-eq_default}
use lib.Seq.{take-add}
use borrow.Author.Tests.{ltb-true, ltb-false, ne_eqb}
use Rattle.std.specs.List.{list_all}
use Rattle.foundation.proofs.laws.Booleans.{by_test, impossible}
use Rattle.std.proofs.lemmas.List.Folds.{list_all-append}
use Rattle.limits.specs.declared.Settings.{Settings}
use Rattle.hex_digits.specs.Digits.{is_digit, number_in, line_feed}
use Rattle.hex_digits.proofs.laws.NumberLaws.{number_digits, no_number_others}
use Rattle.reporter_spec.specs.Program.{bound_digits, threshold_digits, settings_digits, settings_malformed, settings_in}
use Rattle.report_lines.specs.ProgramLines.{settings_frame_in}

module _ (input : List ℕ) where
  pub frame_unended : (get_or input settings_digits 0 ≡ line_feed → ⊥) → settings_frame_in input ≡ None
  unfolding settings_frame_in settings_malformed
  frame_unended h = rw (ne_eqb (get_or input settings_digits 0) line_feed h, and-false (list_all is_digit (take settings_digits input)))

  pub frame_short : length input ≤ settings_digits → settings_frame_in input ≡ None
  frame_short h = let none = get_or-eq_default input 0 h in frame_unended (λ e. omega (arith, none, e))

  -- one of the numbers, with so many digits before it and after it
  pub number_missing : (before digits after : ℕ) → before + (digits + after) ≡ settings_digits → number_in (take digits (drop before input)) ≡ None
      → settings_frame_in input ≡ None
  unfolding settings_frame_in settings_malformed
  number_missing before digits after parts e =
      let some_other : list_all is_digit (take (before + (digits + after)) input) ≡ false =
      rw (
        take-add before (digits + after) input,
        list_all-append is_digit (take before input) (take (digits + after) (drop before input)),
        take-add digits after (drop before input),
        list_all-append is_digit (take digits (drop before input)) (take after (drop digits (drop before input))),
        no_number_others (take digits (drop before input)) e,
        and-false,
      ) in
      rw (rw parts at some_other)

  -- all four are numbers
  pub frame_read : (s : Settings) → get_or input settings_digits 0 ≡ line_feed
      → number_in (take bound_digits input) ≡ Some s.activities
      → number_in (take bound_digits (drop bound_digits input)) ≡ Some s.inputs
      → number_in (take bound_digits (drop (2 * bound_digits) input)) ≡ Some s.outputs
      → number_in (take threshold_digits (drop (3 * bound_digits) input)) ≡ Some s.threshold
      → settings_frame_in input ≡ Some s
  unfolding settings_frame_in settings_malformed settings_in
  frame_read s ended a i o t =
      let first = number_digits (take bound_digits input) s.activities a in
      let second = number_digits (take bound_digits (drop bound_digits input)) s.inputs i in
      let third = number_digits (take bound_digits (drop (2 * bound_digits) input)) s.outputs o in
      let fourth = number_digits (take threshold_digits (drop (3 * bound_digits) input)) s.threshold t in
      let digits : list_all is_digit (take settings_digits input) ≡ true =
      rw (
        take-add (3 * bound_digits) threshold_digits input,
        list_all-append is_digit (take (3 * bound_digits) input) (take threshold_digits (drop (3 * bound_digits) input)),
        take-add (2 * bound_digits) bound_digits input,
        list_all-append is_digit (take (2 * bound_digits) input) (take bound_digits (drop (2 * bound_digits) input)),
        take-add bound_digits bound_digits input,
        list_all-append is_digit (take bound_digits input) (take bound_digits (drop bound_digits input)),
        first.digits,
        second.digits,
        third.digits,
        fourth.digits,
      ) in
      rw (digits, ended, first.number, second.number, third.number, fourth.number)

  -- a frame has a line feed after its digits
  pub frame_long : (s : Settings) → settings_frame_in input ≡ Some s → settings_digits < length input
  frame_long s e =
      by_test
      (ltb settings_digits (length input))
      (λ t. ltb-true settings_digits (length input) t)
      (λ f. let short = frame_short (ltb-false settings_digits (length input) f) in impossible (cc))

  -- what the frame says of the definitions
  pub read_settings : (s : Settings) → settings_frame_in input ≡ Some s → (settings_malformed input ≡ false) × (settings_in input ≡ s)
  unfolding settings_frame_in
  read_settings s e =
      by_test (settings_malformed input) (λ t. let h = rw t at e in impossible (cc)) (λ f. (f, let h = rw f at e in cc))

  pub read_malformed : settings_frame_in input ≡ None → settings_malformed input ≡ true
  unfolding settings_frame_in
  read_malformed e = by_test (settings_malformed input) (λ t. t) (λ f. let h = rw f at e in impossible (cc))
