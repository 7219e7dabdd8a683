-- The words that frames and variants are sorted by: a frame's holds its tally above its line, and a
-- variant's is the lower the more cases it has, and then the earlier its first line.
-- Assumes nothing.
use Rattle.std.specs.Prelude.{ℕ, ◌+◌, ◌-◌, ◌*◌, ◌/◌, ◌%◌, ◌^◌, List, [], ◌∷◌, map, length, drop}
use mathlib.Core.List.{flat_map}
use Rattle.foundation.specs.Lists.{up_to}
use Rattle.event_log_spec.specs.Frames.{Frame}
use Rattle.variants_spec.specs.declared.Variant.{Variant}
use Rattle.variants_spec.specs.Variants.{tally, trace_in}
use Rattle.variants_spec.specs.Summary.{entry}

-- bytes as a number, the lowest first
abbrev pub number_of : List ℕ → ℕ
number_of [] = 0
number_of (byte ∷ bytes) = byte + 256 * number_of bytes

-- room for a line or for how many frames there are, neither of which is above 4,096
abbrev pub line_room : ℕ
line_room = 65536

-- the counts of all activities but the two endpoints, each of which occurs once in every trace, and
-- below them the line
unfoldable pub frame_word : List ℕ → ℕ → ℕ
frame_word counts line = number_of (drop 2 counts) * line_room + line

abbrev pub tally_in : ℕ → ℕ
tally_in word = word / line_room

abbrev pub line_in : ℕ → ℕ
line_in word = word % line_room

-- the word of a line's frame, and those of all lines
abbrev pub word_of : List Frame → ℕ → ℕ
word_of frames line = frame_word (tally (trace_in frames line)) line

unfoldable pub frame_words : List Frame → List ℕ
frame_words frames = map (word_of frames) (up_to (length frames))

-- the largest count of cases that a word has room for
abbrev pub most_cases : ℕ
most_cases = 2 ^ 64 - 1

unfoldable pub variant_word : Variant → ℕ
variant_word v = (most_cases - v.cases) * (line_room * line_room) + v.first_line * line_room + v.frames

-- they are below this
abbrev pub words_end : ℕ
words_end = 2 ^ 96

unfoldable pub variant_in : ℕ → Variant
variant_in word =
    record {
      first_line = word / line_room % line_room;
      frames = word % line_room;
      cases = most_cases - word / (line_room * line_room);
    }

-- the entry of the variant that a word holds, and the entries of a list of words
abbrev pub entry_in : ℕ → List ℕ
entry_in word = entry (variant_in word)

abbrev pub entries_in : List ℕ → List ℕ
entries_in words = flat_map entry_in words
