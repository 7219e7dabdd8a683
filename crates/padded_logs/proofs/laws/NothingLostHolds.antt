-- Nothing is lost: what a call answers and leaves is computed from the refusal of its text and from
-- the frames, and these are the same for the padded text at eight digits and for the text at four.
-- The program takes its log from behind the settings frame, which is the same in both inputs.
-- Assumes nothing.
use Prim.Native.Nat.{ℕ, ◌+◌, ◌*◌, ◌≤◌, ◌<◌}
use native.Mathlib.Omega.{arith}
use mathlib.Core.Path.{◌≡◌, sym, ap, ◌∙◌}
use mathlib.Core.List.{List, [], ◌++◌, flat_map, append-nil}
use borrow.Author.Tests.{leb-true, leb-false, le-ltb, lt-ltb}
use lib.Dec.{leb, lit≤}
use lib.ListN.{length, take, drop, get_or, get_or-append, length-append, length-drop, take-append-drop}
use lib.Seq.{length-take-le, drop_at}
use Rattle.std.proofs.lemmas.List.{take-append-le, drop-append-le, take_all, drop_all}
use Rattle.foundation.specs.Text.{bytes}
use Rattle.foundation.proofs.laws.Booleans.{by_test}
use Rattle.limits.specs.declared.Settings.{Settings}
use Rattle.places.specs.declared.Place.{Place}
use Rattle.event_log_spec.specs.Frames.{Frame}
use Rattle.event_log_spec.specs.Lines.{lines}
use Rattle.event_log_spec.specs.Checking.{checked, checked_with}
use Rattle.replay_spec.specs.Answers.{first_trace, first_trace_with, replayed, replayed_with, judged, judged_with}
use Rattle.discovery_spec.specs.Search.{Capacity}
use Rattle.discovery_spec.specs.Discovery.{run, run_with, run_refusal, run_refusal_with, discovered_with, found_after_with, rejected_after_with}
use Rattle.listing.specs.Listing.{Resources, listing_with, searched_with, rejected_left_with, found_left_with, kept_left_with}
use Rattle.reporter_spec.specs.Program.{most_input, capacity, bound_digits, threshold_digits, settings_digits, settings_malformed, settings_in, log_in, program_refusal_with, placelist, placelist_with}
use Rattle.padded_logs.specs.Padding.{former_count_digits, padded, padded_input}
use Rattle.padded_logs.specs.NothingLost.{PaddedText, SameSearch, SameListing, NothingLost}
use Rattle.padded_logs.proofs.Opened.{opened}
use Rattle.padded_logs.proofs.laws.PaddedLines.{lines_padded, longer, frames_padded as log_padded}
use Rattle.padded_logs.proofs.laws.PaddedFrames.{frames_padded, refusal_padded}

padded_text : PaddedText
padded_text = record { each_line = lines_padded; same_frames = λ frames small. log_padded small }

module _ (A : ℕ) (text : List ℕ) where
  check : checked A (padded text) ≡ checked_with former_count_digits A text
  unfolding checked_with
  check = rw (refusal_padded _ _ A text, frames_padded text)

  first_padded : first_trace (padded text) ≡ first_trace_with former_count_digits text
  unfolding first_trace_with
  first_padded = ap (λ (frames : List Frame). (get_or frames 0 (record { cases = 0; trace = [] })).trace) (frames_padded text)

  replay : (p : Place) → replayed A (padded text) p ≡ replayed_with former_count_digits A text p
  unfolding replayed_with
  replay p = rw (refusal_padded _ _ A text, first_padded)

  judge : (T : ℕ) (p : Place) → judged A T (padded text) p ≡ judged_with former_count_digits A T text p
  unfolding judged_with
  judge T p = rw (refusal_padded _ _ A text, frames_padded text)

-- a run, and whether its call is refused
module _ (s : Settings) (text : List ℕ) where
  run_padded : (room : Capacity) → run s (padded text) room ≡ run_with former_count_digits s text room
  unfolding run_with
  run_padded room = rw (frames_padded text)

  refusal_same : run_refusal s (padded text) ≡ run_refusal_with former_count_digits s text
  unfolding run_refusal_with
  refusal_same = refusal_padded _ _ s.activities text

  search : SameSearch s text
  unfolding discovered_with found_after_with rejected_after_with
  search =
      record {
        answer = λ room. rw (refusal_same, run_padded room);
        list = λ rejected found budget. rw (refusal_same, run_padded _);
        cache = λ rejected found budget. rw (refusal_same, run_padded _);
      }

  listing : (resources : Resources) → SameListing s text resources
  unfolding listing_with searched_with rejected_left_with found_left_with kept_left_with
  listing resources =
      record {
        answer = rw (search.answer _, search.list _ _ _);
        cache = search.cache _ _ _;
        list = search.list _ _ _;
        kept = rw (search.answer _, search.list _ _ _);
      }

-- the bytes of the settings frame; what follows them does not change what they say
abbrev frame_bytes : ℕ
frame_bytes = settings_digits + 1

module _ (front rest : List ℕ) (size : length front ≡ frame_bytes) where
  number_front : (before digits : ℕ) → before + digits ≤ frame_bytes → take digits (drop before (front ++ rest)) ≡ take digits (drop before front)
  number_front before digits inside =
      rw (drop-append-le before front rest (omega (arith, size)))
      (take-append-le digits (drop before front) rest (omega (arith, length-drop before front, size)))

  settings_front : settings_in (front ++ rest) ≡ settings_in front
  unfolding settings_in
  settings_front =
      rw (
        number_front 0 bound_digits (lit≤ tt),
        number_front bound_digits bound_digits (lit≤ tt),
        number_front (2 * bound_digits) bound_digits (lit≤ tt),
        number_front (3 * bound_digits) threshold_digits (lit≤ tt),
      )

  malformed_front : settings_malformed (front ++ rest) ≡ settings_malformed front
  unfolding settings_malformed
  malformed_front =
      rw (number_front 0 settings_digits (lit≤ tt), get_or-append front rest 0 settings_digits (omega (arith, size)))

-- the two inputs have the same settings frame, and the one the padded log of the other
record SameFront (input : List ℕ) : Type 0 where
  settings : settings_in (padded_input input) ≡ settings_in input
  malformed : settings_malformed (padded_input input) ≡ settings_malformed input
  log : log_in (padded_input input) ≡ padded (log_in input)

module _ (input : List ℕ) where
  -- an input that is no longer than its settings frame has no log
  no_log : length input ≤ frame_bytes → padded_input input ≡ input
  unfolding padded_input log_in padded lines flat_map
  no_log short = rw (drop_all frame_bytes input short, take_all frame_bytes input short) (append-nil input)

  some_log : frame_bytes ≤ length input → SameFront input
  unfolding padded_input log_in
  some_log long =
      let front = take frame_bytes input in
      let rest = drop frame_bytes input in
      let size = length-take-le frame_bytes input long in
      let whole = take-append-drop frame_bytes input in
      record {
        settings = settings_front front (padded rest) size ∙ sym (settings_front front rest size) ∙ ap settings_in whole;
        malformed = malformed_front front (padded rest) size ∙ sym (malformed_front front rest size) ∙ ap settings_malformed whole;
        log = drop_at front (padded rest) frame_bytes size;
      }

  same_front : SameFront input
  unfolding log_in padded lines flat_map
  same_front =
      by_test
      (leb frame_bytes (length input))
      (λ t. some_log (leb-true frame_bytes (length input) t))
      (λ f. let short = leb-false frame_bytes (length input) f in
      let same = no_log (omega arith) in
      record {
        settings = ap settings_in same;
        malformed = ap settings_malformed same;
        log = ap log_in same ∙ rw (drop_all frame_bytes input (omega arith));
      })

  -- the padded input is the longer one
  padded_longer : length input ≤ length (padded_input input)
  unfolding padded_input log_in
  padded_longer =
      omega (
        arith,
        length-append (take frame_bytes input) (padded (drop frame_bytes input)),
        length-append (take frame_bytes input) (drop frame_bytes input),
        ap length (take-append-drop frame_bytes input),
        longer (drop frame_bytes input),
      )

  same_output : length (padded_input input) ≤ most_input → placelist (padded_input input) ≡ placelist_with former_count_digits input
  unfolding placelist_with program_refusal_with
  same_output fits =
      rw (
        le-ltb most_input (length (padded_input input)) fits,
        le-ltb most_input (length input) (omega (arith, padded_longer)),
        same_front.settings,
        same_front.malformed,
        same_front.log,
        refusal_same (settings_in input) (log_in input),
        run_padded (settings_in input) (log_in input) capacity,
      )

too_long : (digits : ℕ) (input : List ℕ) → most_input < length input → placelist_with digits input ≡ bytes "FF0500000000\n"
unfolding placelist_with program_refusal_with opened
too_long digits input more = rw (lt-ltb most_input (length input) more)

pub nothing_lost : NothingLost
nothing_lost =
    record {
      padding = padded_text;
      frames = frames_padded;
      check = check;
      replay = replay;
      judge = λ A T text p. judge A text T p;
      search = search;
      listing = listing;
      program = record { output = same_output; too_long = too_long };
    }
