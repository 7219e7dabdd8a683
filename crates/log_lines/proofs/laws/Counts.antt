-- The case count at the front of a text, from what its first bytes, as many as a count has digits,
-- write.
-- Assumes nothing.
use Rattle.std.specs.Prelude.{None, Some}
use Rattle.std.specs.Bool.{then_some}
use Prim.Native.Nat.{ℕ, ◌≤◌, ◌<◌}
use mathlib.Core.Path.{◌≡◌}
use mathlib.Core.Bool.{not, and-false}
use mathlib.Core.List.{List}
use borrow.Author.Tests.{le-leb, lt-leb}
use lib.Dec.{eqb}
use lib.ListN.{length, take}
use Rattle.foundation.proofs.laws.Booleans.{by_test}
use Rattle.hex_digits.specs.Digits.{number_in}
use Rattle.event_log_spec.specs.Frames.{count_digits}
use Rattle.log_lines.specs.Reading.{count_in}
use Rattle.hex_digits.proofs.laws.NumberLaws.{number_digits, no_number_others}

module _ (text : List ℕ) where
  -- too few bytes
  pub count_short : length text < count_digits → count_in text ≡ None
  unfolding count_in
  count_short h = rw (lt-leb count_digits (length text) h)

  -- a byte that is no digit
  pub count_others : number_in (take count_digits text) ≡ None → count_in text ≡ None
  unfolding count_in
  count_others e = rw (no_number_others (take count_digits text) e, and-false)

  -- a number that is not 0
  pub count_cases : (n : ℕ) → number_in (take count_digits text) ≡ Some n → count_digits ≤ length text
      → count_in text ≡ then_some (not (eqb n 0)) n
  unfolding count_in
  count_cases n e long =
      let d = number_digits (take count_digits text) n e in
      rw (d.number, d.digits, le-leb count_digits (length text) long) (by_test (eqb n 0) (λ t. rw t) (λ f. rw f))

pub ruleset counts = (count_short, count_others, count_cases)
