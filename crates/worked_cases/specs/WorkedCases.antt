-- The worked cases of document 01, "Replays worth keeping", as rows of one statement: M1 to M12
-- with every figure of the table and of the paragraph below it, and the case of placelist.
-- proofs/Computed.antt proves it. Assumes nothing.
use Rattle.std.specs.Prelude.{ℕ, ◌≤◌, ◌≡◌, List, [], ◌∷◌, map, ℤ, pos, neg_ℤ, Result, Ok, Err}
use Rattle.foundation.specs.Text.{bytes}
use Rattle.limits.specs.declared.Refusal.{Refusal}
use Rattle.limits.specs.declared.Settings.{Settings}
use Rattle.limits.specs.Refusals.{number, value}
use Rattle.places.specs.Places.{place, word}
use Rattle.event_log_spec.specs.declared.LogSize.{LogSize}
use Rattle.event_log_spec.specs.Checking.{log_size, checked}
use Rattle.replay_spec.specs.declared.Balances.{Balances}
use Rattle.replay_spec.specs.declared.FirstMissing.{FirstMissing}
use Rattle.replay_spec.specs.declared.FirstMissing.TheVariants.{NoEvent, AtEvent}
use Rattle.replay_spec.specs.declared.FirstUnderfed.TheVariants.{NoLine}
use Rattle.replay_spec.specs.declared.Verdict.TheVariants.{Fitting, Overfed}
use Rattle.replay_spec.specs.declared.CaseCounts.{CaseCounts}
use Rattle.replay_spec.specs.Judgement.{overfed_cases}
use Rattle.replay_spec.specs.Answers.{replayed, judged}
use Rattle.discovery_spec.specs.declared.End.{End}
use Rattle.discovery_spec.specs.Search.{end_number, holding, state_of}
use Rattle.discovery_spec.specs.Discovery.{run, discovered}
use Rattle.reduction_spec.specs.Reduction.{reduced, reduced_words}
use Rattle.reporter_spec.specs.Program.{placelist}

abbrev pub minus : ℕ → ℤ
minus n = neg_ℤ (pos n)

-- checking refuses with this number, and this value beside it
pub record RefusedWith (n v : ℕ) (c : Result LogSize Refusal) : Type 0 where
  pub why : Refusal
  pub refused : c ≡ Err why
  pub numbered : number why ≡ n
  pub beside : value why ≡ v

-- M1 to M3, and M4 and M5
abbrev pub sequence : List ℕ
sequence = bytes "00000001000203040501\n"

abbrev pub repeated : List ℕ
repeated = bytes "0000000100040202030301\n"

-- M6 and M11
abbrev pub single : List ℕ
single = bytes "00000001000201\n"

-- M7: the source's first log, and the case counts of the row's place
abbrev pub variants : List ℕ
variants = bytes "0000001F0002030401\n0000001B0003020401\n000000170002030501\n000000130003020501\n"

abbrev pub variant_counts : CaseCounts
variant_counts = record { fitting = 58; underfed = 0; overfed = 42; both = 0 }

pub record M7 : Type 0 where
  pub cases : checked 6 variants ≡ Ok (log_size 4 100)
  pub overfed : overfed_cases variant_counts ≡ 42
  pub at_419 : judged 6 419 variants (place 0x0001 0x0010) ≡ Ok (record { counts = variant_counts; verdict = Overfed; first_underfed = NoLine })
  pub at_420 : judged 6 420 variants (place 0x0001 0x0010) ≡ Ok (record { counts = variant_counts; verdict = Fitting; first_underfed = NoLine })

-- M11's settings, and the places that it lists
abbrev pub settings : Settings
settings = record { activities = 3; inputs = 2; outputs = 2; threshold = 0 }

abbrev pub found_words : List ℕ
found_words = map word (place 0x0001 0x0002 ∷ place 0x0004 0x0002 ∷ place 0x0005 0x0006 ∷ place 0x0001 0x0004 ∷ [])

-- a run of M11: its shelf, its list and its allowance; what it lists; and of its answer the number
-- of its end, listed, shelved, replays and visits
pub record M11Run (rejected_room found_room budget : ℕ) (words : List ℕ) (end found rejected replays visits : ℕ) : Type 0 where
  pub finds :
      (state_of (run settings single (holding rejected_room found_room budget))).found ≡ words
  pub how : End
  pub answers :
      discovered settings single (holding rejected_room found_room budget)
      ≡ Ok (record { end = how; found = found; rejected = rejected; replays = replays; visits = visits })
  pub ends : end_number how ≡ end

-- a shelf of 15 or more
abbrev pub LargeCache : ℕ → Type 0
LargeCache n = M11Run n 4 36 found_words 0 4 15 19 36

pub record M11 : Type 0 where
  pub cache_15_or_more : (n : ℕ) → 15 ≤ n → LargeCache n
  pub cache_1 : M11Run 1 4 36 found_words 0 4 1 34 36
  pub cache_0 : M11Run 0 4 36 found_words 0 4 0 36 36
  pub cache_4_budget_4 : M11Run 4 4 4 [] 1 0 4 4 18
  pub cache_15_list_0 : M11Run 15 0 36 [] 2 0 4 5 19

pub record M12 : Type 0 where
  pub kept : reduced_words found_words ≡ map word (place 0x0001 0x0002 ∷ place 0x0004 0x0002 ∷ place 0x0001 0x0004 ∷ [])
  pub answers : reduced found_words 4 ≡ Ok 3

-- replaying answers a low, an end, and where the first token is missing (document 02, c)
abbrev pub with_balances : ℤ → ℤ → FirstMissing → Result Balances Refusal
with_balances least last missing = Ok (record { least = least; last = last; first_missing = missing })

pub record WorkedCases : Type 0 where
  pub m1 : replayed 6 sequence (place 0x0001 0x0004) ≡ with_balances (pos 0) (pos 0) NoEvent
  pub m2 : replayed 6 sequence (place 0x0004 0x0030) ≡ with_balances (minus 1) (minus 1) (AtEvent 4)
  pub m3 : replayed 6 sequence (place 0x0030 0x0002) ≡ with_balances (pos 0) (pos 1) NoEvent
  pub m4 : replayed 6 repeated (place 0x0004 0x0030) ≡ with_balances (minus 1) (pos 1) (AtEvent 1)
  pub m5 : replayed 6 repeated (place 0x0001 0x0004) ≡ with_balances (minus 1) (minus 1) (AtEvent 3)
  pub m6 : replayed 3 single (place 0x0004 0x0004) ≡ with_balances (minus 1) (pos 0) (AtEvent 1)
  pub m7 : M7
  pub m8 : RefusedWith 6 0 (checked 6 []) × RefusedWith 2 0 (checked 6 (bytes "\n"))
  pub m9 : RefusedWith 2 0 (checked 6 (bytes "000000000001\n")) × RefusedWith 3 0 (checked 2 single)
  pub m10 : RefusedWith 4 0 (checked 6 (bytes "000000010100\n"))
  pub m11 : M11
  pub m12 : M12
  pub program :
      placelist (bytes "0303010000\n000000010001\n") ≡ bytes "00010002\n00050002\n00040004\n000000000C0000000F\n"
