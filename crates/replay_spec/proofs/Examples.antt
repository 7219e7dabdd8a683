-- The definitions of balances and judgements, tried on the source's own examples: the two traces
-- discussed after Definition 5 with the five places of its Figure 1, the log of that figure, and
-- traces and places of Figure 3, where activities stand in both sets of a place. Those of missing
-- tokens are tried where the first event or line and another one differ.
-- Assumes nothing.
use Rattle.std.specs.Prelude.{Ok, Err}
use Prim.Native.Nat.{ℕ}
use mathlib.Core.Path.{◌≡◌, refl}
use mathlib.Core.Bool.{true, false}
use mathlib.Core.List.{List, [], ◌∷◌, map}
use lib.IntN.{ℤ, pos, negsuc}
use Rattle.foundation.specs.Text.{bytes}
use Rattle.limits.specs.declared.Refusal.TheVariants.{InvalidSetting, MalformedFrame, EmptyLog, InvalidPlace}
use Rattle.places.specs.declared.Place.{Place}
use Rattle.places.specs.Places.{place}
use Rattle.places.proofs.Examples.{figure1}
use Rattle.event_log_spec.specs.Frames.{total_cases}
use Rattle.event_log_spec.specs.Lines.{frames_of}
use Rattle.event_log_spec.proofs.Examples.{figure1_log}
use Rattle.replay_spec.specs.declared.CaseCounts.{CaseCounts}
use Rattle.replay_spec.specs.declared.Balances.{Balances}
use Rattle.replay_spec.specs.declared.FirstMissing.{FirstMissing}
use Rattle.replay_spec.specs.declared.FirstMissing.TheVariants.{NoEvent, AtEvent}
use Rattle.replay_spec.specs.declared.FirstUnderfed.{FirstUnderfed}
use Rattle.replay_spec.specs.declared.FirstUnderfed.TheVariants.{NoLine, AtLine}
use Rattle.replay_spec.specs.declared.Judgement.{Judgement}
use Rattle.replay_spec.specs.declared.Verdict.{Verdict}
use Rattle.replay_spec.specs.declared.Verdict.TheVariants.{Fitting, Underfed, Overfed, Both}
use Rattle.replay_spec.specs.Balance.{balance_at, least_balance, last_balance, underfeeds, overfeeds}
use Rattle.replay_spec.specs.Judgement.{case_counts, exceeds, verdict_where, verdict_of, verdict}
use Rattle.replay_spec.specs.Missing.{first_missing, first_underfed, missing_index, line_index, event_index}
use Rattle.replay_spec.specs.Answers.{replayed, judged}
use Rattle.replay_spec.proofs.Opened.{opened}

-- what a trace alone says of a place (Definition 5)
abbrev of_trace : List ℕ → Place → Verdict
of_trace trace p = verdict_where (underfeeds trace p) (overfeeds trace p)

pub record TraceExamples : Type 0 where
  -- start a b c d end
  pub each_once : map (of_trace (0 ∷ 2 ∷ 3 ∷ 4 ∷ 5 ∷ 1 ∷ [])) figure1 ≡ Fitting ∷ Fitting ∷ Underfed ∷ Underfed ∷ Overfed ∷ []
  -- start a e e b f c f d e end, where e and f have the codes 6 and 7
  pub others_between :
      map (of_trace (0 ∷ 2 ∷ 6 ∷ 6 ∷ 3 ∷ 7 ∷ 4 ∷ 7 ∷ 5 ∷ 6 ∷ 1 ∷ [])) figure1
      ≡ Fitting ∷ Fitting ∷ Underfed ∷ Underfed ∷ Overfed ∷ []
  -- start c a a b b end
  pub too_early : map (of_trace (0 ∷ 4 ∷ 2 ∷ 2 ∷ 3 ∷ 3 ∷ 1 ∷ [])) figure1 ≡ Underfed ∷ Underfed ∷ Both ∷ Both ∷ Fitting ∷ []
  -- the balance of p3 at each event of that trace, the least of them, and the last balance
  pub balances :
      map (balance_at (place 0x0004 0x0030) (0 ∷ 4 ∷ 2 ∷ 2 ∷ 3 ∷ 3 ∷ 1 ∷ [])) (0 ∷ 1 ∷ 2 ∷ 3 ∷ 4 ∷ 5 ∷ 6 ∷ [])
      ≡ pos 0 ∷ negsuc 0 ∷ negsuc 0 ∷ pos 0 ∷ pos 1 ∷ pos 1 ∷ pos 1 ∷ []
  pub least : least_balance (place 0x0004 0x0030) (0 ∷ 4 ∷ 2 ∷ 2 ∷ 3 ∷ 3 ∷ 1 ∷ []) ≡ negsuc 0
  pub last : last_balance (place 0x0004 0x0030) (0 ∷ 4 ∷ 2 ∷ 2 ∷ 3 ∷ 3 ∷ 1 ∷ []) ≡ pos 1
  -- an activity in both sets takes a token that is there already, and cannot take the one it gives
  pub fed_before : of_trace (0 ∷ 2 ∷ 3 ∷ 1 ∷ []) (place 0x0005 0x000C) ≡ Fitting
  pub not_fed_by_itself : of_trace (0 ∷ 2 ∷ 1 ∷ []) (place 0x0004 0x0004) ≡ Underfed

-- in the first of these traces a token is missing from event 1 on, the most of them at events 2
-- and 3
pub record MissingExamples : Type 0 where
  pub first_of_four : first_missing (place 0x0004 0x0030) (0 ∷ 4 ∷ 5 ∷ 2 ∷ 1 ∷ []) ≡ AtEvent 1
  pub at_first_event : first_missing (place 0x0004 0x0001) (0 ∷ 2 ∷ 1 ∷ []) ≡ AtEvent 0
  pub at_last_event : first_missing (place 0x0004 0x0002) (0 ∷ 3 ∷ 1 ∷ []) ≡ AtEvent 2
  pub not_fed_by_itself : first_missing (place 0x0004 0x0004) (0 ∷ 2 ∷ 1 ∷ []) ≡ AtEvent 1
  pub only_overfed : first_missing (place 0x0001 0x0004) (0 ∷ 1 ∷ []) ≡ NoEvent
  pub event_shown : missing_index (AtEvent 253) ≡ pos 253
  pub none_shown : missing_index NoEvent ≡ negsuc 0

-- line 0 overfeeds the place, lines 1 and 2 underfeed it, the latter with more cases
abbrev underfed_log : List ℕ
underfed_log = bytes "00000007000201\n000000010004030201\n00000005000301\n"

pub record UnderfedExamples : Type 0 where
  pub first_line : first_underfed (place 0x0004 0x0008) (frames_of underfed_log) ≡ AtLine 1 2
  pub no_line : first_underfed (place 0x0001 0x0002) (frames_of underfed_log) ≡ NoLine
  pub line_shown : line_index (AtLine 4095 253) ≡ pos 4095
  pub event_shown : event_index (AtLine 4095 253) ≡ pos 253
  pub no_line_shown : line_index NoLine ≡ negsuc 0
  pub no_event_shown : event_index NoLine ≡ negsuc 0

-- frames of Figure 3's log
abbrev figure3_log : List ℕ
figure3_log = bytes "00000031000301\n0000001F0002030401\n0000000C00020203040401\n00000005000202020304040401\n"

abbrev pub counts : ℕ → ℕ → ℕ → ℕ → CaseCounts
counts fitting underfed overfed both = record { fitting = fitting; underfed = underfed; overfed = overfed; both = both }

pub record LogExamples : Type 0 where
  pub figure_1 : map (verdict 0 (frames_of figure1_log)) figure1 ≡ Fitting ∷ Fitting ∷ Fitting ∷ Fitting ∷ Fitting ∷ []
  pub figure_3 :
      map (verdict 0 (frames_of figure3_log)) (place 0x0005 0x000C ∷ place 0x0004 0x0010 ∷ place 0x0018 0x0012 ∷ [])
      ≡ Fitting ∷ Fitting ∷ Fitting ∷ []
  -- from the start to a: a frame with one a fits, those with more underfeed the place, that with
  -- none overfeeds it
  pub counted : case_counts (place 0x0001 0x0004) (frames_of figure3_log) ≡ counts 31 17 49 0
  -- from a and b to c: c comes first in the first frame, and not at all in the second
  pub both_counted : case_counts (place 0x000C 0x0010) (frames_of (bytes "000000020004020301\n00000001000201\n")) ≡ counts 0 0 1 2
  pub total : total_cases (frames_of figure3_log) ≡ 97

-- a share of exactly T thousandths is not above T; the cases that do both count towards each verdict
pub record ThresholdExamples : Type 0 where
  pub below : exceeds 420 100 41 ≡ false
  pub exact : exceeds 420 100 42 ≡ false
  pub above : exceeds 419 100 42 ≡ true
  pub none_at_zero : exceeds 0 100 0 ≡ false
  pub one_at_zero : exceeds 0 100 1 ≡ true
  pub all_at_thousand : exceeds 1000 100 100 ≡ false
  pub underfed_or_both : verdict_of 500 10 (counts 4 3 0 3) ≡ Underfed
  pub overfed_or_both : verdict_of 500 10 (counts 4 0 3 3) ≡ Overfed
  pub each_by_itself : verdict_of 500 10 (counts 0 2 2 6) ≡ Both
  pub neither : verdict_of 500 10 (counts 0 5 5 0) ≡ Fitting

abbrev balances : ℤ → ℤ → FirstMissing → Balances
balances least last missing = record { least = least; last = last; first_missing = missing }

abbrev judgement : CaseCounts → Verdict → FirstUnderfed → Judgement
judgement counts verdict line = record { counts = counts; verdict = verdict; first_underfed = line }

pub record AnswerExamples : Type 0 where
  pub setting_first : replayed 17 [] (place 0 0) ≡ Err InvalidSetting
  pub place_before_log : replayed 2 [] (place 0x0004 0x0001) ≡ Err (InvalidPlace 0)
  pub empty_log : replayed 2 [] (place 0x0001 0x0002) ≡ Err EmptyLog
  -- the whole log is checked, though only line 0 is replayed
  pub whole_log : replayed 2 (bytes "000000010001\n00000000") (place 0x0001 0x0002) ≡ Err (MalformedFrame 1)
  pub first_line : replayed 3 (bytes "000000010001\n00000001000201\n") (place 0x0001 0x0004) ≡ Ok (balances (pos 0) (pos 1) NoEvent)
  pub threshold : judged 2 1001 (bytes "000000010001\n") (place 0x0001 0x0002) ≡ Err InvalidSetting
  pub judged_no_place : judged 2 0 [] (place 0x0001 0x0004) ≡ Err (InvalidPlace 0)
  pub judged_place : judged 5 175 figure3_log (place 0x0001 0x0004) ≡ Ok (judgement (counts 31 17 49 0) Both (AtLine 2 2))
  pub judged_higher : judged 5 176 figure3_log (place 0x0001 0x0004) ≡ Ok (judgement (counts 31 17 49 0) Overfed (AtLine 2 2))

pub trace_examples : TraceExamples
unfolding opened
trace_examples =
    record {
      each_once = refl;
      others_between = refl;
      too_early = refl;
      balances = refl;
      least = refl;
      last = refl;
      fed_before = refl;
      not_fed_by_itself = refl;
    }

pub missing_examples : MissingExamples
unfolding opened
missing_examples =
    record {
      first_of_four = refl;
      at_first_event = refl;
      at_last_event = refl;
      not_fed_by_itself = refl;
      only_overfed = refl;
      event_shown = refl;
      none_shown = refl;
    }

pub underfed_examples : UnderfedExamples
unfolding opened
underfed_examples =
    record {
      first_line = refl;
      no_line = refl;
      line_shown = refl;
      event_shown = refl;
      no_line_shown = refl;
      no_event_shown = refl;
    }

pub log_examples : LogExamples
unfolding opened
log_examples = record { figure_1 = refl; figure_3 = refl; counted = refl; both_counted = refl; total = refl }

pub threshold_examples : ThresholdExamples
unfolding opened
threshold_examples =
    record {
      below = refl;
      exact = refl;
      above = refl;
      none_at_zero = refl;
      one_at_zero = refl;
      all_at_thousand = refl;
      underfed_or_both = refl;
      overfed_or_both = refl;
      each_by_itself = refl;
      neither = refl;
    }

pub answer_examples : AnswerExamples
unfolding opened
answer_examples =
    record {
      setting_first = refl;
      place_before_log = refl;
      empty_log = refl;
      whole_log = refl;
      first_line = refl;
      threshold = refl;
      judged_no_place = refl;
      judged_place = refl;
      judged_higher = refl;
    }
