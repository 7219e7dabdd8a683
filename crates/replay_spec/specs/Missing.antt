-- Where the first token is missing: the first event of a trace at which the count goes below zero,
-- and the first line of a log that underfeeds the place, with that event. Document 02, c).
-- Assumes nothing.
use Rattle.std.specs.Prelude.{ℕ, ◌≡◌, ◌<◌, Bool, true, false, List, ℤ, pos, negsuc, length, Option, None, Some}
use Rattle.std.specs.List.{position}
use Rattle.std.specs.Int.Signed.{lt_z}
use Rattle.foundation.specs.Lists.{up_to}
use Rattle.places.specs.declared.Place.{Place}
use Rattle.event_log_spec.specs.Frames.{Frame, frame_in}
use Rattle.replay_spec.specs.declared.FirstMissing.{FirstMissing}
use Rattle.replay_spec.specs.declared.FirstMissing.TheVariants.{NoEvent, AtEvent}
use Rattle.replay_spec.specs.declared.FirstUnderfed.{FirstUnderfed}
use Rattle.replay_spec.specs.declared.FirstUnderfed.TheVariants.{NoLine, AtLine}
use Rattle.replay_spec.specs.Balance.{balance_at, underfeeds}

-- at event k the count is below zero: a token is missing. At the first such event it goes below
unfoldable pub missing_at : Place → List ℕ → ℕ → Bool
missing_at p trace k = lt_z (balance_at p trace k) (pos 0)

-- the event of an index that was found, or none
abbrev pub event_found : Option ℕ → FirstMissing
event_found None = NoEvent
event_found (Some k) = AtEvent k

-- the first event of a trace at which a token is missing
unfoldable pub first_missing : Place → List ℕ → FirstMissing
first_missing p trace = event_found (position (missing_at p trace) (up_to (length trace)))

-- a line with an event of its trace; a line that is found underfeeds the place and so has one
abbrev pub on_line : ℕ → FirstMissing → FirstUnderfed
on_line line NoEvent = NoLine
on_line line (AtEvent k) = AtLine line k

abbrev pub line_found : Place → List Frame → Option ℕ → FirstUnderfed
line_found p frames None = NoLine
line_found p frames (Some line) = on_line line (first_missing p (frame_in frames line).trace)

-- the first line that underfeeds the place, with the first event of its trace at which a token is
-- missing
unfoldable pub first_underfed : Place → List Frame → FirstUnderfed
first_underfed p frames = line_found p frames (position (λ (f : Frame). underfeeds f.trace p) frames)

-- what they are, in words: of an event, and of a line with an event
pub record MissingAt (p : Place) (trace : List ℕ) (k : ℕ) : Type 0 where
  pub in_trace : k < length trace
  pub below : lt_z (balance_at p trace k) (pos 0) ≡ true
  pub not_before : (j : ℕ) → j < k → lt_z (balance_at p trace j) (pos 0) ≡ false

pub record UnderfedAt (p : Place) (frames : List Frame) (line k : ℕ) : Type 0 where
  pub in_log : line < length frames
  pub underfed : underfeeds (frame_in frames line).trace p ≡ true
  pub not_before : (earlier : ℕ) → earlier < line → underfeeds (frame_in frames earlier).trace p ≡ false
  pub missing : MissingAt p (frame_in frames line).trace k

-- the index that stands for each case: of the event, of the line and of its event, and -1 for none
abbrev pub no_index : ℤ
no_index = negsuc 0

unfoldable pub missing_index : FirstMissing → ℤ
missing_index NoEvent = no_index
missing_index (AtEvent k) = pos k

unfoldable pub line_index : FirstUnderfed → ℤ
line_index NoLine = no_index
line_index (AtLine line k) = pos line

unfoldable pub event_index : FirstUnderfed → ℤ
event_index NoLine = no_index
event_index (AtLine line k) = pos k
