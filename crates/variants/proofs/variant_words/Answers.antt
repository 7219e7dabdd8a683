-- `variants::variant_words` meets its contract: the frames' words, sorted and gathered, give the
-- variants' words, and these sorted are the summary's.
-- Assumes nothing.
use Rattle.std.proofs.Common.{List, ℕ, take, drop, ◌≡◌, ap, ◌∙◌}
use mathlib.Core.List.{map}
use lib.Seq.{drop_at, length-take-le}
use Rattle.std.proofs.lemmas.List.{take_rest}
use Rattle.sorting.specs.Sorting.{sorted}
use Rattle.event_log_spec.specs.Lines.{frames_of}
use Rattle.variants.specs.Words.{variant_word, frame_words}
use Rattle.variants.specs.Gathering.{gathered}
use Rattle.variants.proofs.laws.SummaryWords.{summary_sorted}
use Rattle.variants.proofs.variant_words.Goals as goal

pub returns : goal.returns
returns c =
    let log = c.args.log.now in
    let frames = frames_of log.text.now in
    let words = c.sort_words.new.words in
    let first = c.gather-first.result in
    let these : words ≡ sorted (frame_words frames) = c.sort_words.ensures.sorted ∙ ap sorted c.write_frame_words.ensures in
    let front = length-take-le first words c.gather-first.ensures.within in
    let gathered_part : drop first c.gather-first.new.words ≡ map variant_word (gathered frames words) =
    ap (drop first) c.gather-first.ensures.words ∙ drop_at (take first words) (map variant_word (gathered frames words)) first front in
    c.sort_words-2.ensures.sorted
    ∙ ap sorted (take_rest c.gather-first.new.words first ∙ gathered_part ∙ ap (λ (l : List ℕ). map variant_word (gathered frames l)) these)
    ∙ summary_sorted frames log.indexed.log.few_frames log.indexed.log.each
