-- The steps of replaying and judging a log: the checks of a call's place and text, and the case counts
-- with one more frame. Document 01, "Tokens in one trace" and "Settings and the log".
-- Assumes nothing.
use Rattle.std.specs.Prelude.{ℕ, ◌+◌, List, [], ◌∷◌, pos, get_or, set, None, Result}
use Rattle.std.specs.Int.Signed.{lt_z}
use Rattle.limits.specs.declared.Refusal.{Refusal}
use Rattle.limits.specs.Refusals.{answered}
use Rattle.places.specs.declared.Place.{Place}
use Rattle.places.specs.Places.{place_fault}
use Rattle.event_log_spec.specs.declared.LogSize.{LogSize}
use Rattle.event_log_spec.specs.Checking.{log_refusal, size_of}
use Rattle.replay_spec.specs.declared.CaseCounts.{CaseCounts}
use Rattle.replay_spec.specs.Judgement.{verdict_where, mark}
use Rattle.token_replay.specs.declared.Tokens.{Tokens}

-- checking the place and the text of a call whose settings are in their ranges
unfoldable pub place_and_text_checked : ℕ → List ℕ → Place → Result LogSize Refusal
place_and_text_checked A text p = answered (log_refusal None (place_fault A 0 p) A text) (size_of text)

-- how many verdicts there are
abbrev pub verdicts : ℕ
verdicts = 4

-- the four case counts in a row, each at the number of its verdict
abbrev pub count_row : CaseCounts → List ℕ
count_row c = c.fitting ∷ c.underfed ∷ c.overfed ∷ c.both ∷ []

-- the number of the verdict on one trace, by the signs of its low and its end
unfoldable pub kind_of : Tokens → ℕ
kind_of t = mark (verdict_where (lt_z t.least (pos 0)) (lt_z (pos 0) t.balance))

-- one more frame's cases go to the count of its trace's verdict
unfoldable pub with_cases : List ℕ → Tokens → ℕ → List ℕ
with_cases counts t n = set counts (kind_of t) (get_or counts (kind_of t) 0 + n)
