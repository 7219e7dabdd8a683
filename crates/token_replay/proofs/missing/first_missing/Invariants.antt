-- For every place whose sets these are, replaying what is left of the trace from here finds what
-- replaying all of it finds; an event has two digits, and the balance is no larger than the digits
-- before it are many.
-- Assumes nothing.
use Rattle.std.proofs.Common.{ℕ, List, length, true, ◌≡◌, ◌+◌, ◌*◌, ◌≤◌}
use Rattle.std.specs.Int.Signed.{mag}
use Rattle.std.specs.Slice.Iter.{chunks_exact_rest, chunks_exact_size}
use Rattle.std.specs.List.{list_all}
use Rattle.hex_digits.specs.Digits.{is_digit}
use Rattle.places.specs.declared.Place.{Place}
use Rattle.token_replay.specs.declared.DigitSets.{DigitSets}
use Rattle.token_replay.specs.declared.Tokens.{Tokens}
use Rattle.event_log_spec.specs.Lines.{codes_in}
use Rattle.token_replay.specs.Tokens.{digit_sets}
use Rattle.token_replay.proofs.laws.EventByEvent.{no_tokens}
use Rattle.token_replay.proofs.laws.UntilMissing.{missing_from}
use Rattle.token_replay.proofs.missing.first_missing.Given as goal

-- the tokens after so many events, whose digits stand before those that are left
pub record Searched (digits left : List ℕ) (sets : DigitSets) (tokens : Tokens) (event : ℕ) : Type 0 where
  pub few : mag tokens.balance + length left ≤ length digits
  pub counted : 2 * event + length left ≤ length digits
  pub known : list_all is_digit left ≡ true
  pub alike : (place : Place) → sets ≡ digit_sets place
      → missing_from place tokens event (codes_in left) ≡ missing_from place no_tokens 0 (codes_in digits)

abbrev pub invariant-loop-pair : goal.invariant-loop-pair
invariant-loop-pair l =
    (chunks_exact_size l.pair-iterator ≡ 2)
    × Searched l.digits (chunks_exact_rest l.pair-iterator) l.sets l.tokens l.event
