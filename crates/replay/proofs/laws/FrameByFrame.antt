-- Counting cases frame by frame gives the four case counts: each count is a sum over the frames,
-- and a frame adds its cases to one of the four. All cases of a log stay far below 2 to the power
-- 54, where shares can be compared.
-- Assumes nothing.
use Prim.Native.Nat.{ℕ, ◌+◌, ◌^◌, ◌≤◌, ◌<◌}
use native.Mathlib.Nat.{add-zero}
use native.Mathlib.Omega.{arith}
use mathlib.Core.Path.{◌≡◌, refl, ap}
use mathlib.Core.Bool.{Bool, true, false, cond, not, ◌&&◌}
use mathlib.Core.List.{List, [], ◌∷◌, ◌++◌}
use lib.IntN.{pos}
use lib.Signed.{lt_z}
use lib.ListN.{get_or, set}
use Rattle.foundation.proofs.laws.Sums.{sum_append}
use Rattle.places.specs.declared.Place.{Place}
use Rattle.event_log_spec.proofs.laws.Written.{total_bounded}
use Rattle.event_log_spec.specs.Frames.{Frame, WrittenLog, total_cases}
use Rattle.replay_spec.specs.declared.CaseCounts.{CaseCounts}
use Rattle.replay_spec.specs.Balance.{underfeeds, overfeeds}
use Rattle.replay_spec.specs.Judgement.{cases_where, case_counts, cases_of, verdict_where, verdict_of, verdict, mark}
use Rattle.token_replay.specs.declared.Tokens.{Tokens}
use Rattle.token_replay.specs.Tokens.{after_trace}
use Rattle.replay.specs.Replaying.{count_row, kind_of, with_cases}
use Rattle.replay_spec.proofs.laws.Counts.{cases_where_sum, counts_add_up}

cases_where_more : (test : List ℕ → Bool) (frames : List Frame) (f : Frame)
    → cases_where test (frames ++ (f ∷ [])) ≡ cases_where test frames + cond (test f.trace) f.cases 0
cases_where_more test frames f = simp (cases_where_sum, sum_append, add-zero)

-- some cases that go to the count of the verdict on one trace
module _ (c : CaseCounts) where
  row_more : (n : ℕ) (underfed overfed : Bool)
      → count_row (
      record {
        fitting = c.fitting + cond (not underfed && not overfed) n 0;
        underfed = c.underfed + cond (underfed && not overfed) n 0;
        overfed = c.overfed + cond (not underfed && overfed) n 0;
        both = c.both + cond (underfed && overfed) n 0;
      })
      ≡ set (count_row c) (mark (verdict_where underfed overfed)) (get_or (count_row c) (mark (verdict_where underfed overfed)) 0 + n)
  unfolding mark
  row_more n true true = simp add-zero
  row_more n true false = simp add-zero
  row_more n false true = simp add-zero
  row_more n false false = simp add-zero

  row_part : (underfed overfed : Bool) → get_or (count_row c) (mark (verdict_where underfed overfed)) 0 ≤ cases_of c
  unfolding mark
  row_part true true = omega arith
  row_part true false = omega arith
  row_part false true = omega arith
  row_part false false = omega arith

  -- one of the four counts is at most their sum
  pub count_part : (t : Tokens) → get_or (count_row c) (kind_of t) 0 ≤ cases_of c
  unfolding kind_of
  count_part t = row_part (lt_z t.least (pos 0)) (lt_z (pos 0) t.balance)

module _ (p : Place) where
  pub counts_none : count_row (case_counts p []) ≡ 0 ∷ 0 ∷ 0 ∷ 0 ∷ []
  unfolding case_counts cases_where total_cases
  counts_none = refl

  -- one frame more
  pub counts_more : (frames : List Frame) (f : Frame)
      → count_row (case_counts p (frames ++ (f ∷ []))) ≡ with_cases (count_row (case_counts p frames)) (after_trace p f.trace) f.cases
  unfolding with_cases kind_of case_counts underfeeds overfeeds
  counts_more frames f = simp cases_where_more (row_more (case_counts p frames) f.cases (underfeeds f.trace p) (overfeeds f.trace p))

-- of a log's counts the verdict is the log's, and their sum is small enough to be compared
module _ (p : Place) (frames : List Frame) {counts : CaseCounts} where
  pub verdict_counted : (T : ℕ) → counts ≡ case_counts p frames → verdict_of T (cases_of counts) counts ≡ verdict T frames p
  unfolding verdict
  verdict_counted T e = rw e (ap (λ (n : ℕ). verdict_of T n (case_counts p frames)) (counts_add_up p frames))

  pub counts_bounded : {A : ℕ} {text : List ℕ} → WrittenLog A frames text → counts ≡ case_counts p frames → cases_of counts < 2 ^ 54
  counts_bounded w e = rw e (omega (arith, counts_add_up p frames, total_bounded w.each, w.few_frames))
