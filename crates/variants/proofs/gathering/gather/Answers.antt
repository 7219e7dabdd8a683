-- `variants::gathering::gather` meets its contract: each turn gathers one word more, and what it
-- writes stands behind the words that are still to be read.
-- Assumes nothing.
use Rattle.std.proofs.Common.{ℕ, List, length, get_or, ◌≡◌, ◌-◌, ◌^◌, ◌≤◌, ◌<◌, ap, arith}
use mathlib.Core.Bool.{Bool, true, false, not, cond}
use mir.Val.{bool_byte}
use lib.Dec.{eqb}
use Rattle.foundation.specs.Lists.{Each}
use Rattle.foundation.proofs.laws.Each.{each_at}
use Rattle.sorting.specs.Sorting.{sorted}
use Rattle.event_log_spec.specs.Frames.{Frame, most_frames}
use Rattle.event_log_spec.specs.Lines.{frames_of}
use Rattle.event_log.specs.declared.index.IndexedLog.{IndexedLog}
use Rattle.variants_spec.specs.declared.Variant.{Variant}
use Rattle.variants.specs.Words.{tally_in, line_in, frame_words}
use Rattle.variants.specs.Gathering.{no_frames, with_line}
use Rattle.variants.proofs.laws.GatheringWords.{GatheredFrom, Turned, none_gathered, word_read, turn_behind, turn_read, turned}
use Rattle.variants.proofs.laws.LogWords.{few_cases, words_counted, lines_known, words_small}
use Rattle.variants.proofs.gathering.gather.Goals as goal

-- a test as a number
bit_small : (b : Bool) → bool_byte b ≤ 1
bit_small true = omega arith
bit_small false = omega arith

-- a turn on a log
module _ (log : IndexedLog) (all : List ℕ) (these : all ≡ sorted (frame_words (frames_of log.text.now))) where
  abbrev frames : List Frame
  frames = frames_of log.text.now

  short : length all ≤ most_frames
  short = omega (arith, ap length these, words_counted frames, log.indexed.log.few_frames)

  module _ {at first tally : ℕ} {variant : Variant} {words : List ℕ} (g : GatheredFrom frames all at first tally variant words)
      (some : 0 < at) (less : at ≤ length all) where
    abbrev is_new : Bool
    is_new = not (eqb (tally_in (word_read frames all at words)) tally)

    kept : word_read frames all at words ≡ get_or all (at - 1) 0
    kept = turn_read frames all at first tally variant words g some less (few_cases frames log.indexed.log.each)

    small : word_read frames all at words < 2 ^ 128
    small =
        let each : Each (λ (word : ℕ). word < 2 ^ 128) all = rw these (words_small frames log.indexed.log.few_frames log.indexed.log.each) in
        rw kept (each_at (at - 1) 0 each (omega (arith, some, less)))

    turn : Turned frames all at words (first - bool_byte is_new) (cond is_new no_frames variant)
    turn = turned frames all at first tally variant words g some less (few_cases frames log.indexed.log.each) small

    line_known : line_in (word_read frames all at words) < length frames
    line_known =
        let known : Each (λ (word : ℕ). line_in word < length frames) all = rw these (lines_known frames log.indexed.log.few_frames) in
        rw kept (each_at (at - 1) 0 known (omega (arith, some, less)))

pub loop-at-init : goal.loop-at-init
loop-at-init c =
    let e = c.default-variant.ensures in
    let none : c.default-variant.result ≡ no_frames = λ i. record { first_line = e.0 i; frames = e.1.0 i; cases = e.1.1 i } in
    rw none (none_gathered _ _)

pub overflow_sub-first : goal.overflow_sub-first
overflow_sub-first c =
    let log = c.args.log.now in
    let few = few_cases _ log.indexed.log.each in
    omega (
      arith,
      c.from-first.ensures,
      bit_small (is_new log c.args.words.now c.requires c.loop-at.invariant (omega arith) (omega arith)),
      turn_behind _ _ _ _ _ _ _ c.loop-at.invariant (omega arith) (omega arith) few,
    )

pub with_line-variant-requires : goal.with_line-variant-requires
with_line-variant-requires c =
    let t = turn c.args.log.now c.args.words.now c.requires c.loop-at.invariant (omega arith) (omega arith) in
    rw c.begun.ensures (
      line_known c.args.log.now c.args.words.now c.requires c.loop-at.invariant (omega arith) (omega arith),
      omega (arith, t.few_frames, short c.args.log.now c.args.words.now c.requires),
      omega (arith, t.few_cases, short c.args.log.now c.args.words.now c.requires, few_cases _ c.args.log.now.indexed.log.each (line_in (get_or c.loop-at.words (c.loop-at.at - 1) 0))),
    )

pub variant_word-requires : goal.variant_word-requires
unfolding with_line
variant_word-requires c =
    let log = c.args.log.now in
    let t = turn log c.args.words.now c.requires c.loop-at.invariant (omega arith) (omega arith) in
    rw (c.with_line-variant.ensures, c.begun.ensures) (omega arith, omega (arith, t.few_frames, short log c.args.words.now c.requires))

pub bounds-words-first : goal.bounds-words-first
bounds-words-first c =
    let t = turn c.args.log.now c.args.words.now c.requires c.loop-at.invariant (omega arith) (omega arith) in
    rw c.from-first.ensures (omega (arith, t.within))

pub loop-at-preserved : goal.loop-at-preserved
loop-at-preserved c =
    let t = turn c.args.log.now c.args.words.now c.requires c.loop-at.invariant (omega arith) (omega arith) in
    rw (c.variant_word.ensures, c.with_line-variant.ensures, c.begun.ensures, c.from-first.ensures) t.left
