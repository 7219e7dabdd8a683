-- Nothing is lost by longer case counts: whatever a text is, with 0000 before each of its lines
-- every call that is lent a log gives at eight digits what it gave at four, its answer or refusal
-- and what it leaves in each buffer. Document 02, a).
-- Assumes nothing.
use Rattle.std.specs.Prelude.{ℕ, ◌^◌, ◌≤◌, ◌<◌, ◌≡◌, List, map, length}
use mathlib.Core.List.{flat_map}
use Rattle.foundation.specs.Lists.{Each}
use Rattle.foundation.specs.Text.{bytes}
use Rattle.limits.specs.declared.Settings.{Settings}
use Rattle.places.specs.declared.Place.{Place}
use Rattle.event_log_spec.specs.Frames.{Frame, written_with, write_frame}
use Rattle.event_log_spec.specs.Lines.{lines, frames_with, frames_of}
use Rattle.event_log_spec.specs.Checking.{checked_with, checked}
use Rattle.replay_spec.specs.Answers.{replayed_with, replayed, judged_with, judged}
use Rattle.discovery_spec.specs.Search.{Capacity}
use Rattle.discovery_spec.specs.Discovery.{discovered_with, discovered, found_after_with, found_after, rejected_after_with, rejected_after}
use Rattle.listing.specs.Listing.{Resources, listing_with, listing, rejected_left_with, rejected_left, found_left_with, found_left, kept_left_with, kept_left}
use Rattle.reporter_spec.specs.Program.{placelist_with, placelist}
use Rattle.padded_logs.specs.Padding.{former_count_digits, padded_line, padded, padded_input}

-- what is put where: the lines of a padded text are those of the text, each with the zeros, and the
-- log of four-digit counts built from some frames becomes the log built from the same frames
pub record PaddedText : Type 0 where
  pub each_line : (text : List ℕ) → lines (padded text) ≡ map padded_line (lines text)
  pub same_frames :
      (frames : List Frame) → Each (λ (f : Frame). f.cases < 16 ^ former_count_digits) frames
      → padded (flat_map (written_with former_count_digits) frames) ≡ flat_map write_frame frames

-- the search's answer, and the words in its two buffers
pub record SameSearch (s : Settings) (text : List ℕ) : Type 0 where
  pub answer : (room : Capacity) → discovered s (padded text) room ≡ discovered_with former_count_digits s text room
  pub list :
      (rejected found : List ℕ) (budget : ℕ)
      → found_after s (padded text) rejected found budget
      ≡ found_after_with former_count_digits s text rejected found budget
  pub cache :
      (rejected found : List ℕ) (budget : ℕ)
      → rejected_after s (padded text) rejected found budget
      ≡ rejected_after_with former_count_digits s text rejected found budget

-- a listing's answer, and the words in its three buffers
pub record SameListing (s : Settings) (text : List ℕ) (resources : Resources) : Type 0 where
  pub answer : listing s (padded text) resources ≡ listing_with former_count_digits s text resources
  pub cache : rejected_left s (padded text) resources ≡ rejected_left_with former_count_digits s text resources
  pub list : found_left s (padded text) resources ≡ found_left_with former_count_digits s text resources
  pub kept : kept_left s (padded text) resources ≡ kept_left_with former_count_digits s text resources

-- what the program writes, where the padded input is no longer than it takes; and that it takes no
-- more bytes than before. That it takes as many is in `output`
pub record SameProgram : Type 0 where
  pub output :
      (input : List ℕ) → length (padded_input input) ≤ 65536
      → placelist (padded_input input) ≡ placelist_with former_count_digits input
  pub too_long :
      (digits : ℕ) (input : List ℕ) → 65536 < length input → placelist_with digits input ≡ bytes "FF0500000000\n"

-- the claim, with a field for each call
pub record NothingLost : Type 0 where
  pub padding : PaddedText
  pub frames : (text : List ℕ) → frames_of (padded text) ≡ frames_with former_count_digits text
  pub check : (A : ℕ) (text : List ℕ) → checked A (padded text) ≡ checked_with former_count_digits A text
  pub replay :
      (A : ℕ) (text : List ℕ) (p : Place) → replayed A (padded text) p ≡ replayed_with former_count_digits A text p
  pub judge :
      (A T : ℕ) (text : List ℕ) (p : Place) → judged A T (padded text) p ≡ judged_with former_count_digits A T text p
  pub search : (s : Settings) (text : List ℕ) → SameSearch s text
  pub listing : (s : Settings) (text : List ℕ) (resources : Resources) → SameListing s text resources
  pub program : SameProgram
