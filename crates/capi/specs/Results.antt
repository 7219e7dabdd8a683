-- What the places for a call's results hold on return: its results in the order of the interface,
-- and after a refusal what they held before.
-- Assumes nothing.
use Rattle.std.specs.Prelude.{ℕ, List, [], ◌∷◌, ℤ, Result, Ok, Err}
use Rattle.limits.specs.declared.Refusal.{Refusal}
use Rattle.event_log_spec.specs.declared.LogSize.{LogSize}
use Rattle.replay_spec.specs.declared.Balances.{Balances}
use Rattle.replay_spec.specs.declared.Judgement.{Judgement}
use Rattle.replay_spec.specs.Judgement.{mark}
use Rattle.replay_spec.specs.Missing.{missing_index, line_index, event_index}
use Rattle.discovery_spec.specs.declared.Run.{Run}
use Rattle.discovery_spec.specs.Search.{end_number}

-- a result is written where the call is not refused
abbrev pub result_after : {X R : Type 0} → (X → R) → Result X Refusal → R → R
result_after result (Ok answer) before = result answer
result_after result (Err refusal) before = before

-- the frames and the cases of a log
unfoldable pub sizes_after : Result LogSize Refusal → List ℕ → List ℕ
sizes_after = result_after (λ (size : LogSize). size.frames ∷ size.cases ∷ [])

-- the low and the end of document 01
unfoldable pub least_after : Result Balances Refusal → ℤ → ℤ
least_after = result_after (λ (balances : Balances). balances.least)

unfoldable pub last_after : Result Balances Refusal → ℤ → ℤ
last_after = result_after (λ (balances : Balances). balances.last)

-- the index of the first event at which a token is missing, or -1
unfoldable pub missing_after : Result Balances Refusal → ℤ → ℤ
missing_after = result_after (λ (balances : Balances). missing_index balances.first_missing)

-- the four case counts
unfoldable pub counts_after : Result Judgement Refusal → List ℕ → List ℕ
counts_after =
    result_after
    (λ (judgement : Judgement).
    let counts = judgement.counts in
    counts.fitting ∷ counts.underfed ∷ counts.overfed ∷ counts.both ∷ [])

-- the verdict, by the number that marks a rejected word
unfoldable pub verdict_after : Result Judgement Refusal → ℕ → ℕ
verdict_after = result_after (λ (judgement : Judgement). mark judgement.verdict)

-- the indices of the first line that underfeeds the place, and of the first event of it at which a
-- token is missing, or -1
unfoldable pub line_after : Result Judgement Refusal → ℤ → ℤ
line_after = result_after (λ (judgement : Judgement). line_index judgement.first_underfed)

unfoldable pub event_after : Result Judgement Refusal → ℤ → ℤ
event_after = result_after (λ (judgement : Judgement). event_index judgement.first_underfed)

-- how a run ended, the words found and rejected, the replays and the visits
unfoldable pub run_after : Result Run Refusal → List ℕ → List ℕ
run_after = result_after (λ (run : Run). end_number run.end ∷ run.found ∷ run.rejected ∷ run.replays ∷ run.visits ∷ [])

-- how many words were kept, or bytes or entries written
unfoldable pub count_after : Result ℕ Refusal → ℕ → ℕ
count_after = result_after (λ (count : ℕ). count)
