-- The definition of the search, tried on two small logs. The figures of whole runs were found by a
-- second program (docs/DECISIONS.md, 5).
-- Assumes nothing.
use Rattle.std.specs.Prelude.{Result, Ok, Err}
use Prim.Native.Nat.{ℕ}
use mathlib.Core.Path.{◌≡◌, refl}
use mathlib.Core.Bool.{true, false}
use mathlib.Core.List.{List, [], ◌∷◌, map}
use lib.ListN.{replicate}
use Rattle.foundation.specs.Text.{bytes}
use Rattle.limits.specs.declared.Refusal.{Refusal}
use Rattle.limits.specs.declared.Refusal.TheVariants.{InvalidSetting, MisplacedEndpoint}
use Rattle.limits.specs.declared.Settings.{Settings}
use Rattle.places.specs.declared.Place.{Place}
use Rattle.places.specs.Places.{place, word}
use Rattle.event_log_spec.proofs.Examples.{figure1_log}
use Rattle.replay_spec.specs.declared.Verdict.TheVariants.{Underfed, Both}
use Rattle.discovery_spec.specs.declared.End.{End}
use Rattle.discovery_spec.specs.declared.End.TheVariants.{Completed, BudgetSpent, ListFull}
use Rattle.discovery_spec.specs.declared.Run.{Run}
use Rattle.discovery_spec.specs.Rejected.{rejected_word, mark_in, rules_underfed, rules_overfed, ruled}
use Rattle.discovery_spec.specs.Search.{end_number, Capacity, holding}
use Rattle.discovery_spec.specs.Discovery.{discovered, found_after, rejected_after}
use Rattle.discovery_spec.proofs.Opened.{opened}

-- candidates lighter than, equal to and heavier than the place of a word
abbrev around : List Place
around = place 0x0001 0x0006 ∷ place 0x0005 0x0006 ∷ place 0x0005 0x0002 ∷ place 0x0008 0x0006 ∷ []

pub record RulingExamples : Type 0 where
  pub word_of_both : rejected_word (place 0x0005 0x0006) Both ≡ 0x300060005
  pub marks : map mark_in (0x100000000 ∷ 0x2FFFFFFFF ∷ 0x300010001 ∷ []) ≡ 1 ∷ 2 ∷ 3 ∷ []
  pub underfed : map (λ (c : Place). rules_underfed c 0x100060005) around ≡ true ∷ true ∷ false ∷ false ∷ []
  pub underfed_only : map (λ (c : Place). rules_overfed c 0x100060005) around ≡ false ∷ false ∷ false ∷ false ∷ []
  pub overfed : map (λ (c : Place). rules_overfed c 0x200060005) around ≡ false ∷ true ∷ true ∷ false ∷ []
  pub overfed_only : map (λ (c : Place). rules_underfed c 0x200060005) around ≡ false ∷ false ∷ false ∷ false ∷ []
  pub both_lighter : map (λ (c : Place). rules_underfed c 0x300060005) around ≡ true ∷ true ∷ false ∷ false ∷ []
  pub both_heavier : map (λ (c : Place). rules_overfed c 0x300060005) around ≡ false ∷ true ∷ true ∷ false ∷ []
  -- a word with no mark, or with one above 3, rules nothing
  pub other_marks : map (ruled (0x000060005 ∷ 0x400060005 ∷ 0x500060005 ∷ 0x600060005 ∷ [])) around ≡ false ∷ false ∷ false ∷ false ∷ []

abbrev settings : ℕ → ℕ → ℕ → Settings
settings activities inputs outputs = record { activities = activities; inputs = inputs; outputs = outputs; threshold = 0 }

abbrev ran : End → ℕ → ℕ → ℕ → ℕ → Result Run Refusal
ran end found rejected replays visits =
    Ok (record { end = end; found = found; rejected = rejected; replays = replays; visits = visits })

-- either of two signatures, 2 or 3, releases the case: 56 candidates of at most three inputs and
-- one output
abbrev either_log : List ℕ
either_log = bytes "00000002000201\n00000001000301\n"

abbrev either : Capacity → Result Run Refusal
either room = discovered (settings 4 3 1) either_log room

-- the log of the source's Figure 1: 126 candidates of at most two inputs and one output, the
-- figure's p1, p2 and p5 among the six found
abbrev figure1 : Capacity → Result Run Refusal
figure1 room = discovered (settings 6 2 1) figure1_log room

pub record RunExamples : Type 0 where
  pub ends : map end_number (Completed ∷ BudgetSpent ∷ ListFull ∷ []) ≡ 0 ∷ 1 ∷ 2 ∷ []
  pub completed : either (holding 56 56 56) ≡ ran Completed 2 21 23 29
  -- the second place found, from 2 and 3 to the end, would be lost by pruning after the underfed
  -- verdict on 2 alone
  pub found :
      found_after (settings 4 3 1) either_log (replicate 56 5) (7 ∷ 8 ∷ 9 ∷ []) 56
      ≡ word (place 0x0001 0x0002) ∷ word (place 0x000C 0x0002) ∷ 9 ∷ []
  -- a full cache drops words, and what it dropped prunes nothing
  pub small_cache : either (holding 2 56 56) ≡ ran Completed 2 2 53 54
  pub no_cache : either (holding 0 56 56) ≡ ran Completed 2 0 56 56
  pub budget_spent : either (holding 2 56 20) ≡ ran BudgetSpent 1 2 20 21
  pub no_budget : either (holding 2 56 0) ≡ ran BudgetSpent 0 0 0 0
  pub list_full : either (holding 2 1 56) ≡ ran ListFull 1 2 24 25
  -- two replays fill two words of a cache of three
  pub cached :
      rejected_after (settings 4 3 1) either_log (7 ∷ 8 ∷ 9 ∷ []) [] 2
      ≡ rejected_word (place 0x0001 0x0001) Underfed ∷ rejected_word (place 0x0003 0x0001) Both ∷ 9 ∷ []
  pub figure_1 : figure1 (holding 126 126 126) ≡ ran Completed 6 75 81 97
  pub setting_refused : discovered (settings 4 5 1) [] (holding 0 0 0) ≡ Err InvalidSetting
  pub log_refused : discovered (settings 4 3 1) (bytes "000000010100\n") (holding 0 0 0) ≡ Err (MisplacedEndpoint 0)
  pub list_as_found : found_after (settings 4 5 1) either_log (5 ∷ []) (7 ∷ 8 ∷ []) 56 ≡ 7 ∷ 8 ∷ []
  pub cache_as_found : rejected_after (settings 4 3 1) (bytes "000000010100\n") (7 ∷ 8 ∷ []) (5 ∷ []) 56 ≡ 7 ∷ 8 ∷ []

pub ruling_examples : RulingExamples
unfolding opened
ruling_examples =
    record {
      word_of_both = refl;
      marks = refl;
      underfed = refl;
      underfed_only = refl;
      overfed = refl;
      overfed_only = refl;
      both_lighter = refl;
      both_heavier = refl;
      other_marks = refl;
    }

pub run_examples : RunExamples
unfolding opened
run_examples =
    record {
      ends = refl;
      completed = refl;
      found = refl;
      small_cache = refl;
      no_cache = refl;
      budget_spent = refl;
      no_budget = refl;
      list_full = refl;
      cached = refl;
      figure_1 = refl;
      setting_refused = refl;
      log_refused = refl;
      list_as_found = refl;
      cache_as_found = refl;
    }
