-- What each call answers and leaves, tried on one that is not refused and one that is. The places
-- for results hold 7, 8 and 9 before.
-- Assumes nothing.
use Rattle.std.specs.Prelude.{Result}
use Prim.Native.Nat.{ℕ}
use mathlib.Core.Path.{◌≡◌, refl}
use mathlib.Core.List.{List, [], ◌∷◌, map}
use lib.IntN.{pos, negsuc}
use Rattle.foundation.specs.Text.{bytes}
use Rattle.limits.specs.declared.Refusal.{Refusal}
use Rattle.limits.specs.Refusals.{answer_number, answer_value}
use Rattle.replay_spec.specs.declared.Balances.{Balances}
use Rattle.replay_spec.specs.declared.Judgement.{Judgement}
use Rattle.discovery_spec.specs.declared.Run.{Run}
use Rattle.places.specs.Places.{place, word}
use Rattle.event_log_spec.specs.Checking.{checked}
use Rattle.replay_spec.specs.Answers.{replayed, judged}
use Rattle.variants_spec.specs.Summary.{summarized, summary_after}
use Rattle.discovery_spec.specs.Search.{holding}
use Rattle.discovery_spec.specs.Discovery.{discovered}
use Rattle.reduction_spec.specs.Reduction.{reduced}
use Rattle.writer.specs.Writing.{written}
use Rattle.reporter.specs.Reporting.{reported}
use Rattle.capi.specs.Settings.{settings_of}
use Rattle.capi.specs.Results.{sizes_after, least_after, last_after, counts_after, verdict_after, run_after, count_after}
use Rattle.capi.specs.Version.{version_of}
use Rattle.capi.proofs.Opened.{opened}

-- the number that a call answers, then the value beside it
abbrev said : {X : Type 0} → Result X Refusal → List ℕ
said answer = answer_number answer ∷ answer_value answer ∷ []

-- two cases go by 2, and one by 3
abbrev log : List ℕ
log = bytes "00000002000201\n00000001000301\n"

abbrev checking : ℕ → List ℕ
checking A = said (checked A log)

-- 2 puts a token in too late for 0, which takes one out
abbrev late : Result Balances Refusal
late = replayed 4 log (place 4 1)

abbrev no_place : Result Balances Refusal
no_place = replayed 4 log (place 0 1)

-- from 2 to the end: a case in three is underfed
abbrev judging : ℕ → Result Judgement Refusal
judging T = judged 4 T log (place 4 2)

-- two variants, of a frame each
abbrev summarizing : ℕ → Result ℕ Refusal
summarizing words = summarized 4 log words

abbrev searching : ℕ → Result Run Refusal
searching A = discovered (settings_of A 3 1 0) (bytes "000000010001\n") (holding 9 9 99)

-- the third place is the union of the others
abbrev reducing : ℕ → Result ℕ Refusal
reducing room = reduced (word (place 1 2) ∷ word (place 4 4) ∷ word (place 5 6) ∷ []) room

abbrev writing : ℕ → Result ℕ Refusal
writing room = written (word (place 1 2) ∷ word (place 4 4) ∷ []) room

-- three places and the last line
abbrev reporting : ℕ → Result ℕ Refusal
reporting room = reported (bytes "0303010000\n000000010001\n") room

pub record Examples : Type 0 where
  pub checks : checking 4 ≡ 0 ∷ 0 ∷ []
  pub sizes : sizes_after (checked 4 log) (7 ∷ 8 ∷ []) ≡ 2 ∷ 3 ∷ []
  -- the second line names an activity that three do not have
  pub check_refused : checking 3 ≡ 3 ∷ 1 ∷ []
  pub sizes_as_found : sizes_after (checked 3 log) (7 ∷ 8 ∷ []) ≡ 7 ∷ 8 ∷ []
  pub replays : said late ≡ 0 ∷ 0 ∷ []
  pub least : least_after late (pos 7) ≡ negsuc 0
  pub last : last_after late (pos 7) ≡ pos 0
  pub replay_refused : said no_place ≡ 7 ∷ 0 ∷ []
  pub least_as_found : least_after no_place (pos 7) ≡ pos 7
  pub last_as_found : last_after no_place (pos 7) ≡ pos 7
  pub judges : said (judging 333) ≡ 0 ∷ 0 ∷ []
  pub counts : counts_after (judging 333) (7 ∷ 7 ∷ 8 ∷ 8 ∷ []) ≡ 2 ∷ 1 ∷ 0 ∷ 0 ∷ []
  pub verdicts : map (λ (T : ℕ). verdict_after (judging T) 9) (333 ∷ 334 ∷ 1001 ∷ []) ≡ 1 ∷ 0 ∷ 9 ∷ []
  pub judge_refused : said (judging 1001) ≡ 1 ∷ 0 ∷ []
  pub counts_as_found : counts_after (judging 1001) (7 ∷ 7 ∷ 8 ∷ 8 ∷ []) ≡ 7 ∷ 7 ∷ 8 ∷ 8 ∷ []
  pub summarizes : said (summarizing 6) ≡ 0 ∷ 0 ∷ []
  pub entries : count_after (summarizing 6) 7 ≡ 2
  pub summary : summary_after 4 log (7 ∷ 7 ∷ 8 ∷ 8 ∷ 9 ∷ 9 ∷ 9 ∷ []) ≡ 0 ∷ 1 ∷ 2 ∷ 1 ∷ 1 ∷ 1 ∷ 9 ∷ []
  pub summarize_refused : said (summarizing 5) ≡ 8 ∷ 0 ∷ []
  pub entries_as_found : count_after (summarizing 5) 7 ≡ 7
  pub searches : said (searching 3) ≡ 0 ∷ 0 ∷ []
  pub run : run_after (searching 3) (7 ∷ 7 ∷ 8 ∷ 8 ∷ 9 ∷ []) ≡ 0 ∷ 3 ∷ 9 ∷ 12 ∷ 15 ∷ []
  pub search_refused : said (searching 2) ≡ 1 ∷ 0 ∷ []
  pub run_as_found : run_after (searching 2) (7 ∷ 7 ∷ 8 ∷ 8 ∷ 9 ∷ []) ≡ 7 ∷ 7 ∷ 8 ∷ 8 ∷ 9 ∷ []
  pub reduces : said (reducing 3) ≡ 0 ∷ 0 ∷ []
  pub kept : count_after (reducing 3) 7 ≡ 2
  pub reduce_refused : said (reducing 2) ≡ 8 ∷ 0 ∷ []
  pub kept_as_found : count_after (reducing 2) 7 ≡ 7
  pub no_place_in_list : said (reduced (word (place 1 2) ∷ 5 ∷ []) 2) ≡ 7 ∷ 1 ∷ []
  pub writes : said (writing 18) ≡ 0 ∷ 0 ∷ []
  pub bytes_written : count_after (writing 18) 7 ≡ 18
  pub write_refused : said (writing 17) ≡ 8 ∷ 0 ∷ []
  pub bytes_as_found : count_after (writing 17) 7 ≡ 7
  pub reports : said (reporting 36883) ≡ 0 ∷ 0 ∷ []
  pub bytes_reported : count_after (reporting 36883) 7 ≡ 46
  -- what is written is a refusal's line, and the call is not refused
  pub reports_refusal : said (reported [] 36883) ≡ 0 ∷ 0 ∷ []
  pub refusal_written : count_after (reported [] 36883) 7 ≡ 13
  pub report_refused : said (reporting 36882) ≡ 8 ∷ 0 ∷ []
  pub report_as_found : count_after (reporting 36882) 7 ≡ 7
  pub version_parts : version_of 1 2 3 ≡ 66051

pub examples : Examples
unfolding opened
examples =
    record {
      checks = refl;
      sizes = refl;
      check_refused = refl;
      sizes_as_found = refl;
      replays = refl;
      least = refl;
      last = refl;
      replay_refused = refl;
      least_as_found = refl;
      last_as_found = refl;
      judges = refl;
      counts = refl;
      verdicts = refl;
      judge_refused = refl;
      counts_as_found = refl;
      summarizes = refl;
      entries = refl;
      summary = refl;
      summarize_refused = refl;
      entries_as_found = refl;
      searches = refl;
      run = refl;
      search_refused = refl;
      run_as_found = refl;
      reduces = refl;
      kept = refl;
      reduce_refused = refl;
      kept_as_found = refl;
      no_place_in_list = refl;
      writes = refl;
      bytes_written = refl;
      write_refused = refl;
      bytes_as_found = refl;
      reports = refl;
      bytes_reported = refl;
      reports_refusal = refl;
      refusal_written = refl;
      report_refused = refl;
      report_as_found = refl;
      version_parts = refl;
    }
