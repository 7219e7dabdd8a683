-- What holds of the answers of replaying and judging, whatever was asked: the balances keep the
-- ranges of document 01, the four case counts add up to N, and the first token is missing at the
-- event and on the line that are told, or nowhere: of a trace exactly if the low is not below 0, of
-- a log exactly if u is 0. An answer that is no refusal is of an accepted log, whose traces are
-- short and whose cases are all counted. An answer as defined has the number and the value of the
-- call's refusal.
-- Assumes nothing.
use Rattle.std.specs.Prelude.{Option, None, Result, Ok}
use Prim.Native.Nat.{ℕ, ◌≤◌, ◌<◌}
use mathlib.Core.Path.{◌≡◌, sym, ap, ◌∙◌}
use mathlib.Core.Bool.{false}
use mathlib.Core.List.{List}
use mathlib.Core.Logic.{◌↔◌}
use lib.IntN.{pos}
use lib.Signed.{lt_z}
use native.Mathlib.Omega.{arith}
use lib.ListN.{length}
use Rattle.foundation.proofs.laws.Each.{each_imply, each_at}
use Rattle.limits.specs.declared.Refusal.{Refusal}
use Rattle.limits.specs.Refusals.{Numbered, answer_number, answer_value}
use Rattle.limits.specs.Settings.{bound_fault, bound_and_threshold_fault}
use Rattle.places.specs.declared.Place.{Place}
use Rattle.places.specs.Places.{place_fault}
use Rattle.event_log_spec.specs.Frames.{WrittenLog, most_events, most_frames, total_cases}
use Rattle.event_log_spec.specs.Lines.{frames_of}
use Rattle.event_log_spec.specs.Checking.{log_refusal}
use Rattle.limits.proofs.laws.AnswerNumbers.{answer_accepted, numbered}
use Rattle.event_log_spec.proofs.laws.LogChecks.{log_passes}
use Rattle.event_log_spec.proofs.laws.Written.{text_written}
use Rattle.replay_spec.specs.declared.Balances.{Balances}
use Rattle.replay_spec.specs.declared.Judgement.{Judgement}
use Rattle.replay_spec.specs.declared.FirstMissing.TheVariants.{NoEvent, AtEvent}
use Rattle.replay_spec.specs.declared.FirstUnderfed.TheVariants.{NoLine, AtLine}
use Rattle.replay_spec.specs.Balance.{underfeeds}
use Rattle.replay_spec.specs.Judgement.{case_counts, cases_of, underfed_cases}
use Rattle.replay_spec.specs.Missing.{first_underfed, MissingAt, UnderfedAt}
use Rattle.replay_spec.specs.Answers.{first_trace, first_trace_with, replayed, replayed_with, judged, judged_with}
use Rattle.replay_spec.proofs.laws.Extremes.{Ranges, ranges}
use Rattle.replay_spec.proofs.laws.Counts.{counts_add_up}
use Rattle.replay_spec.proofs.laws.FirstMissing.{no_frame, nowhere, somewhere, some_line, no_line_counted}

-- a call that refuses nothing was lent a log
passed_log : (settings places : Option Refusal) (A : ℕ) (text : List ℕ) → log_refusal settings places A text ≡ None
    → WrittenLog A (frames_of text) text
passed_log settings places A text e =
    let passes = (log_passes A text settings places).0 e in text_written A text passes.some_byte passes.lines_pass

-- the first trace of a log is short
first_short : (A : ℕ) (text : List ℕ) → WrittenLog A (frames_of text) text → length (first_trace text) ≤ most_events
unfolding first_trace_with
first_short A text w = (each_at 0 no_frame w.each (omega (arith, w.some_frame))).short

module _ (A : ℕ) (text : List ℕ) (p : Place) where
  pub replayed_ranges : (b : Balances) → replayed A text p ≡ Ok b → Ranges b.least b.last
  unfolding replayed_with
  replayed_ranges b e =
      let (passes, same) = answer_accepted _ _ b e in
      rw (sym same) (ranges p (first_trace text) (first_short A text (passed_log (bound_fault A) (place_fault A 0 p) A text passes)))

  -- the first event at which a token is missing, or none where the least balance is not below 0
  pub replayed_nowhere : (b : Balances) → replayed A text p ≡ Ok b → (b.first_missing ≡ NoEvent) ↔ (lt_z b.least (pos 0) ≡ false)
  unfolding replayed_with underfeeds
  replayed_nowhere b e =
      let (passes, same) = answer_accepted _ _ b e in
      rw (sym same) (nowhere p (first_trace text))

  pub replayed_somewhere : (b : Balances) → replayed A text p ≡ Ok b → (k : ℕ) → b.first_missing ≡ AtEvent k
      → MissingAt p (first_trace text) k × (k < most_events)
  unfolding replayed_with
  replayed_somewhere b e k at =
      let (passes, same) = answer_accepted _ _ b e in
      let missing = (somewhere p (first_trace text) k).0 (ap (λ (x : Balances). x.first_missing) same ∙ at) in
      let short = first_short A text (passed_log (bound_fault A) (place_fault A 0 p) A text passes) in
      (missing, omega (arith, missing.in_trace, short))

  -- what is answered as defined has the number and the value of the refusal
  pub replayed_numbered : {r : Result Balances Refusal} → r ≡ replayed A text p
      → Numbered (log_refusal (bound_fault A) (place_fault A 0 p) A text) (answer_number r) (answer_value r)
  unfolding replayed_with
  replayed_numbered e = numbered _ _ e

module _ (A T : ℕ) (text : List ℕ) (p : Place) where
  -- the counts are those of all frames
  pub judged_counts : (j : Judgement) → judged A T text p ≡ Ok j → case_counts p (frames_of text) ≡ j.counts
  unfolding judged_with
  judged_counts j e = ap (λ (x : Judgement). x.counts) (answer_accepted _ _ j e).1

  pub judged_adds_up : (j : Judgement) → judged A T text p ≡ Ok j → cases_of j.counts ≡ total_cases (frames_of text)
  judged_adds_up j e = rw (sym (judged_counts j e)) (counts_add_up p (frames_of text))

  -- the line that is told is the first that underfeeds the place, with its event
  judged_line : (j : Judgement) → judged A T text p ≡ Ok j → first_underfed p (frames_of text) ≡ j.first_underfed
  unfolding judged_with
  judged_line j e = ap (λ (x : Judgement). x.first_underfed) (answer_accepted _ _ j e).1

  judged_log : (j : Judgement) → judged A T text p ≡ Ok j → WrittenLog A (frames_of text) text
  unfolding judged_with
  judged_log j e = passed_log (bound_and_threshold_fault A T) (place_fault A 0 p) A text (answer_accepted _ _ j e).0

  pub judged_nowhere : (j : Judgement) → judged A T text p ≡ Ok j → (j.first_underfed ≡ NoLine) ↔ (underfed_cases j.counts ≡ 0)
  judged_nowhere j e =
      rw (sym (judged_line j e), sym (judged_counts j e))
      (no_line_counted p (frames_of text) (each_imply (λ f under. under.counted) (judged_log j e).each))

  pub judged_somewhere : (j : Judgement) → judged A T text p ≡ Ok j → (line k : ℕ) → j.first_underfed ≡ AtLine line k
      → UnderfedAt p (frames_of text) line k × (line < most_frames) × (k < most_events)
  judged_somewhere j e line k at =
      let log = judged_log j e in
      let told = (some_line p (frames_of text) line k).0 (judged_line j e ∙ at) in
      let under = each_at line no_frame log.each told.in_log in
      (told, omega (arith, told.in_log, log.few_frames), omega (arith, told.missing.in_trace, under.short))

  pub judged_numbered : {r : Result Judgement Refusal} → r ≡ judged A T text p
      → Numbered (log_refusal (bound_and_threshold_fault A T) (place_fault A 0 p) A text) (answer_number r) (answer_value r)
  unfolding judged_with
  judged_numbered e = numbered _ _ e
