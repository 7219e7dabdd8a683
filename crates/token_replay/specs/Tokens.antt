-- The tokens of one trace, event by event: the sets of a place by digit, and the tokens after one
-- more event and after a trace. Document 01, "Tokens in one trace", first paragraph.
-- Assumes nothing.
use Rattle.std.specs.Prelude.{ℕ, ◌+◌, ◌*◌, ◌/◌, ◌%◌, List, pos, ◌+ℤ◌, ◌-ℤ◌}
use Rattle.places.specs.declared.Place.{Place}
use Rattle.places.specs.Sets.{has}
use Rattle.token_replay.specs.declared.DigitSets.{DigitSets}
use Rattle.token_replay.specs.declared.Tokens.{Tokens}
use Rattle.replay_spec.specs.Balance.{smaller, least_balance, last_balance}

-- an event takes a token or none, then gives one or none; the balance that counts for the low is
-- the one between
abbrev pub tokens_after : Tokens → ℕ → ℕ → Tokens
tokens_after t takes gives =
    let taken = t.balance -ℤ pos takes in
    record { balance = taken +ℤ pos gives; least = smaller t.least taken }

-- it takes one where it is an output, and gives one where it is an input
unfoldable pub after_event : Place → Tokens → ℕ → Tokens
after_event p t code = tokens_after t (has p.outputs code) (has p.inputs code)

-- a set of codes as a set of digits, each by the last five bits of its byte: the digits 0 to 9
-- (bytes 48 to 57) have 16 to 25 there, and A to F (65 to 70) have 1 to 6
abbrev pub by_digit : ℕ → ℕ
by_digit s = s % 1024 * 65536 + s / 1024 % 64 * 2

abbrev pub digit_sets : Place → DigitSets
digit_sets p = record { inputs = by_digit p.inputs; outputs = by_digit p.outputs }

-- after an event, by its digit
unfoldable pub after_digit : DigitSets → Tokens → ℕ → Tokens
after_digit s t digit = tokens_after t (has s.outputs (digit % 32)) (has s.inputs (digit % 32))

-- after the last event of a trace: the end and the low of document 01
abbrev pub after_trace : Place → List ℕ → Tokens
after_trace p trace = record { balance = last_balance p trace; least = least_balance p trace }
