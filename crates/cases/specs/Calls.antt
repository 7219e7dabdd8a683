-- The calls by name.
-- Assumes nothing.
use Rattle.std.specs.Prelude.{ℕ, Option, List, [], ◌∷◌, codes, find, bytes_eq}
use Rattle.cases.specs.declared.calls.Call.{Call}
use Rattle.cases.specs.declared.calls.Call.TheVariants.{Check, Replay, Judge, Summarize, Search, List as ListCall, Twice, Reduce, Write, Report}

-- the calls by their names
abbrev pub name : Call → List ℕ
name Check = codes "check"
name Replay = codes "replay"
name Judge = codes "judge"
name Summarize = codes "summarize"
name Search = codes "search"
name ListCall = codes "list"
name Twice = codes "twice"
name Reduce = codes "reduce"
name Write = codes "write"
name Report = codes "report"

abbrev pub all_calls : List Call
all_calls = Check ∷ Replay ∷ Judge ∷ Summarize ∷ Search ∷ ListCall ∷ Twice ∷ Reduce ∷ Write ∷ Report ∷ []

-- the call of a name
abbrev pub call_named : List ℕ → Option Call
call_named text = find (λ call. bytes_eq (name call) text) all_calls

-- how many words of a line stand before its text or list
abbrev pub leading_words : Call → ℕ
leading_words Check = 2
leading_words Replay = 3
leading_words Judge = 4
leading_words Summarize = 3
leading_words Search = 8
leading_words ListCall = 9
leading_words Twice = 13
leading_words Reduce = 2
leading_words Write = 2
leading_words Report = 2
