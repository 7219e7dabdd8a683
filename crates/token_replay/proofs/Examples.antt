-- The definitions of the tokens of one trace, tried on short digits and single events.
-- Assumes nothing.
use mathlib.Core.Path.{◌≡◌, refl}
use mathlib.Core.List.{[], ◌∷◌}
use lib.IntN.{ℤ, pos, negsuc}
use Rattle.foundation.specs.Text.{bytes}
use Rattle.places.specs.Places.{place}
use Rattle.token_replay.specs.declared.Tokens.{Tokens}
use Rattle.event_log_spec.specs.Lines.{codes_in}
use Rattle.token_replay.specs.Tokens.{after_event, by_digit, digit_sets, after_digit}
use Rattle.token_replay.proofs.Opened.{opened}

abbrev pub tokens : ℤ → ℤ → Tokens
tokens balance least = record { balance = balance; least = least }

pub record StepExamples : Type 0 where
  pub codes : codes_in (bytes "00020F01") ≡ 0 ∷ 2 ∷ 15 ∷ 1 ∷ []
  pub takes_first : after_event (place 0x0004 0x0004) (tokens (pos 0) (pos 0)) 2 ≡ tokens (pos 0) (negsuc 0)
  pub gives : after_event (place 0x0004 0x0008) (tokens (pos 2) (negsuc 0)) 2 ≡ tokens (pos 3) (negsuc 0)
  pub not_touched : after_event (place 0x0004 0x0008) (tokens (pos 2) (negsuc 0)) 5 ≡ tokens (pos 2) (negsuc 0)
  -- the set of the codes 0, 9, 10 and 15, whose digits end in 16, 25, 1 and 6; the digit A, of code
  -- 10
  pub set_by_digit : by_digit 0x8601 ≡ 0x02010042
  pub gives_by_digit : after_digit (digit_sets (place 0x0400 0x0008)) (tokens (pos 2) (negsuc 0)) 65 ≡ tokens (pos 3) (negsuc 0)

pub step_examples : StepExamples
unfolding opened
step_examples = record { codes = refl; takes_first = refl; gives = refl; not_touched = refl; set_by_digit = refl; gives_by_digit = refl }
