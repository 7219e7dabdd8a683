-- `variants::gathering::write_frame_words` meets its contract: the digits of a frame are those of
-- its trace, so each turn stores the word of one line more.
-- Assumes nothing.
use Rattle.std.proofs.Common.{ℕ, List, [], ◌∷◌, ◌++◌, length, take, ◌≡◌, ◌+◌, ◌<◌, ap, ap₂, sym, ◌∙◌, arith}
use native.Mathlib.Numerals.{add-one}
use mathlib.Core.List.{map}
use lib.ListN.{set}
use lib.Seq.{take-suc-set, take-length}
use Rattle.std.proofs.lemmas.List.{length-set, map-append}
use Rattle.foundation.specs.Lists.{up_to}
use Rattle.event_log_spec.specs.Frames.{Frame}
use Rattle.event_log_spec.specs.Lines.{frames_of, frame_at}
use Rattle.event_log.proofs.laws.IndexedFrames.{frame_under}
use Rattle.event_log.proofs.laws.FrameDigits.{DigitsOf, frame_digits}
use Rattle.variants_spec.specs.Variants.{tally}
use Rattle.variants.specs.Words.{frame_word, word_of, frame_words}
use Rattle.variants.proofs.gathering.write_frame_words.Goals as goal

-- the word of one line more
one_stored : (frames : List Frame) (words : List ℕ) (line word : ℕ) → line < length words → word ≡ word_of frames line
    → take line words ≡ map (word_of frames) (up_to line) → take (line + 1) (set words line word) ≡ map (word_of frames) (up_to (line + 1))
one_stored frames words line word less e before =
    rw (add-one line)
    (take-suc-set words line word less
    ∙ ap₂ (λ (front : List ℕ) (w : ℕ). front ++ (w ∷ [])) before e
    ∙ sym (map-append (word_of frames) (up_to line) (line ∷ [])))

module _ (c : goal.After-digits) where
  digits : DigitsOf (frame_at c.args.log.now.text.now c.loop-line.line) c.digits.result.now
  digits = rw c.digits.ensures (frame_digits _ (frame_under c.args.log.now.indexed.log c.loop-line.line (omega arith)))

pub of-requires : goal.of-requires
of-requires c = let d = digits c in (d.short, d.all_digits)

pub loop-line-preserved : goal.loop-line-preserved
loop-line-preserved c =
    let log = c.args.log.now in
    let line = c.loop-line.line in
    let before = c.loop-line.invariant in
    let word : c.word.result ≡ word_of (frames_of log.text.now) line =
    c.word.ensures ∙ ap (λ (counts : List ℕ). frame_word counts line) (c.of.ensures ∙ ap tally (digits c.before.before.before).trace) in (
      length-set c.loop-line.words line c.word.result ∙ before.0,
      one_stored (frames_of log.text.now) c.loop-line.words line c.word.result (omega arith) word before.1,
      c.next_start-start.ensures,
    )

pub returns : goal.returns
unfolding frame_words
returns c =
    let words = c.loop-line.words in
    let frames = frames_of c.args.log.now.text.now in
    let before = c.loop-line.invariant in
    let all : c.loop-line.line ≡ length frames = omega arith in
    let whole : length words ≡ c.loop-line.line = omega (arith, before.0, all) in
    sym (take-length words)
    ∙ ap (λ (n : ℕ). take n words) whole
    ∙ before.1
    ∙ ap (λ (n : ℕ). map (word_of frames) (up_to n)) all
