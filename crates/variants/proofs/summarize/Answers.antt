-- `variants::summarize` meets its contract: what the check of the log refuses is refused, then a
-- buffer without room for an entry of each variant, and else the entries are written.
-- Assumes nothing.
use borrow.Author.Tests.{leb-true, leb-false}
use Rattle.std.proofs.lemmas.List.{length-map}
use Rattle.foundation.specs.Buffers.{overwrite}
use Rattle.std.proofs.Common.{ℕ, List, length, ap, sym, ◌≤◌, ◌<◌, ◌∙◌, arith}
use Rattle.std.proofs.lemmas.Result.{err_from_is_err_and}
use lib.Dec.{lit≤}
use Rattle.event_log_spec.specs.Lines.{frames_of}
use Rattle.variants_spec.specs.Summary.{summarized, summary_after, entry_room, summary}
use Rattle.variants_spec.specs.Variants.{variants}
use Rattle.variants.specs.Words.{variant_word, entries_in}
use Rattle.event_log_spec.proofs.laws.WiderBound.{accepted_widest}
use Rattle.variants.proofs.laws.CallAnswers.{log_refused, room_refused, entries_made, variants_counted}
use Rattle.variants.proofs.laws.SummaryWords.{summary_read, summary_words_small}
use Rattle.variants.proofs.summarize.Goals as goal

pub returns-in_err-check_log : goal.returns-in_err-check_log
unfolding summarized summary_after
returns-in_err-check_log c =
    let answer = err_from_is_err_and c.from_residual.result c.from_residual.ensures.1 in
    let made = log_refused c.args.activities c.args.text.now c.args.entries.now _ (sym c.in_err-check_log.ensures.answer) in
    rw (answer.1, answer.2) (record { answer = made.answers; entries = made.leaves; numbered = made.numbered })

pub index_log-log-requires : goal.index_log-log-requires
index_log-log-requires c =
    (accepted_widest c.args.activities c.args.text.now _ (sym c.in_ok-check_log.ensures.answer), lit≤ tt)

pub returns-in_err-unless : goal.returns-in_err-unless
unfolding summarized summary_after
returns-in_err-unless c =
    let a = c.args in
    let accepted = sym c.in_ok-check_log.ensures.answer in
    let answer = err_from_is_err_and c.from_residual-in_err-unless.result c.from_residual-in_err-unless.ensures.1 in
    let these = rw c.index_log-log.ensures at c.variant_words-variants.ensures in
    let counted = variants_counted a.activities a.text.now a.entries.now _ accepted these in
    let short : entry_room (length a.entries.now) < length (variants (frames_of a.text.now)) = omega (arith, counted, leb-false _ _ c.in_err-unless.ensures.cases.0) in
    let made = room_refused a.activities a.text.now a.entries.now _ accepted _ c.in_err-unless.ensures.cases.1 short in
    rw (answer.1, answer.2) (record { answer = made.answers; entries = made.leaves; numbered = made.numbered })

pub write_entries-requires : goal.write_entries-requires
write_entries-requires c =
    let log = accepted_widest c.args.activities c.args.text.now _ (sym c.in_ok-check_log.ensures.answer) in
    let these = rw c.index_log-log.ensures at c.variant_words-variants.ensures in
    let room = leb-true _ _ c.in_ok-unless.ensures.cases in
    (omega (arith, room), rw these (summary_words_small (frames_of c.args.text.now) log.few_frames log.each))

pub returns : goal.returns
unfolding summarized summary_after
returns c =
    let a = c.args in
    let accepted = sym c.in_ok-check_log.ensures.answer in
    let log = accepted_widest a.activities a.text.now _ accepted in
    let these = rw c.index_log-log.ensures at c.variant_words-variants.ensures in
    let counted = variants_counted a.activities a.text.now a.entries.now _ accepted these in
    let enough : length (variants (frames_of a.text.now)) ≤ entry_room (length a.entries.now) = omega (arith, counted, leb-true _ _ c.in_ok-unless.ensures.cases) in
    let made = entries_made a.activities a.text.now a.entries.now _ accepted enough in
    let entries = c.write_entries.ensures ∙ ap (λ (words : List ℕ). overwrite (entries_in words) a.entries.now) these ∙ ap (λ (l : List ℕ). overwrite l a.entries.now) (summary_read (frames_of a.text.now) log.few_frames log.each) in
    rw (these, length-map (summary (frames_of a.text.now)) variant_word, entries) (
    record { answer = made.answers; entries = made.leaves; numbered = made.numbered })
