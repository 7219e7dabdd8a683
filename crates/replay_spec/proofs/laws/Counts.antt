-- The case counts of a place over a log's frames: the four add up to all cases; all underfed cases
-- are those of the frames that underfeed the place, and all overfed cases those of the frames that
-- overfeed it (document 01, "Tokens in one trace", second paragraph). Equal frames may repeat, and
-- their counts add up ("Settings and the log"). Each count is a sum over the frames: a frame's
-- cases where its trace passes a test, 0 elsewhere.
-- Assumes nothing.
use Prim.Native.Nat.{ℕ, ◌+◌}
use native.Mathlib.Nat.{add-zero, zero-add}
use native.Mathlib.Omega.{arith}
use mathlib.Core.Path.{◌≡◌, refl, ap₂, ◌∙◌}
use mathlib.Core.Bool.{Bool, true, false, cond, not, ◌&&◌, and_comm}
use mathlib.Core.List.{List, ◌∷◌, ◌++◌, map}
use Rattle.foundation.specs.Lists.{sum}
use Rattle.foundation.proofs.laws.Sums.{sum_append, sum_add, sum_filter}
use Rattle.places.specs.declared.Place.{Place}
use Rattle.event_log_spec.specs.Frames.{Frame, total_cases}
use Rattle.replay_spec.specs.Balance.{underfeeds, overfeeds}
use Rattle.replay_spec.specs.Judgement.{cases_where, case_counts, underfed_cases, overfed_cases, verdict_of, verdict}

-- a frame's cases where its trace passes the test, 0 elsewhere
abbrev pub cases_if : (List ℕ → Bool) → Frame → ℕ
cases_if test f = cond (test f.trace) f.cases 0

-- the cases under a test as a sum over all frames
pub cases_where_sum : (test : List ℕ → Bool) (frames : List Frame) → cases_where test frames ≡ sum (map (cases_if test) frames)
unfolding cases_where total_cases
cases_where_sum test frames = sum_filter (λ (f : Frame). f.cases) (λ (f : Frame). test f.trace) frames

-- all frames pass the test that always holds
cases_where_true : (frames : List Frame) → cases_where (λ (t : List ℕ). true) frames ≡ total_cases frames
unfolding total_cases
cases_where_true frames = cases_where_sum (λ (t : List ℕ). true) frames

-- the cases under two tests add up to those under a third where they do so for each trace
cases_add : (a b c : List ℕ → Bool) → ((t : List ℕ) (n : ℕ) → cond (a t) n 0 + cond (b t) n 0 ≡ cond (c t) n 0)
    → (frames : List Frame) → cases_where a frames + cases_where b frames ≡ cases_where c frames
cases_add a b c e frames =
    simp cases_where_sum (sum_add (cases_if a) (cases_if b) (cases_if c) (λ f. e f.trace f.cases) frames)

-- what counts where u holds counts where u holds without v, or where both hold
with_and_without : (u v : Bool) (n : ℕ) → cond (u && not v) n 0 + cond (u && v) n 0 ≡ cond u n 0
with_and_without true true n = zero-add n
with_and_without true false n = add-zero n
with_and_without false v n = refl

-- the same with the two exchanged
without_and_with : (u v : Bool) (n : ℕ) → cond (not u && v) n 0 + cond (u && v) n 0 ≡ cond v n 0
without_and_with u v n = rw (and_comm (not u) v, and_comm u v) (with_and_without v u n)

module _ (p : Place) (frames : List Frame) where
  -- u of document 01: all cases that underfeed
  pub underfed_all : underfed_cases (case_counts p frames) ≡ cases_where (λ (t : List ℕ). underfeeds t p) frames
  unfolding underfed_cases case_counts
  underfed_all = cases_add _ _ _ (λ t. with_and_without (underfeeds t p) (overfeeds t p)) frames

  -- v of document 01: all cases that overfeed
  pub overfed_all : overfed_cases (case_counts p frames) ≡ cases_where (λ (t : List ℕ). overfeeds t p) frames
  unfolding overfed_cases case_counts
  overfed_all = cases_add _ _ _ (λ t. without_and_with (underfeeds t p) (overfeeds t p)) frames

  not_underfed : (case_counts p frames).fitting + (case_counts p frames).overfed ≡ cases_where (λ (t : List ℕ). not (underfeeds t p)) frames
  unfolding case_counts
  not_underfed = cases_add _ _ _ (λ t. with_and_without (not (underfeeds t p)) (overfeeds t p)) frames

  underfed_or_not :
      cases_where (λ (t : List ℕ). not (underfeeds t p)) frames + cases_where (λ (t : List ℕ). underfeeds t p) frames ≡ total_cases frames
  underfed_or_not = cases_add _ _ (λ (t : List ℕ). true) (λ t. with_and_without true (underfeeds t p)) frames ∙ cases_where_true frames

  -- the four case counts add up to N
  pub counts_add_up :
      let c = case_counts p frames in
      c.fitting + c.underfed + c.overfed + c.both ≡ total_cases frames
  unfolding underfed_cases
  counts_add_up = omega (arith, not_underfed, underfed_all, underfed_or_not)

-- the frame of a trace with its number of cases
abbrev pub frame : ℕ → List ℕ → Frame
frame cases trace = record { cases = cases; trace = trace }

-- the counts and the verdicts over the one list of frames are those over the other; the first line
-- that underfeeds a place may have another number there
pub record JudgedAlike (frames others : List Frame) : Type 0 where
  pub counts : (p : Place) → case_counts p frames ≡ case_counts p others
  pub total : total_cases frames ≡ total_cases others
  pub verdicts : (T : ℕ) (p : Place) → verdict T frames p ≡ verdict T others p

module _ (before between after : List Frame) (trace : List ℕ) (c d : ℕ) where
  -- frames with one trace twice, and the same frames with both case counts in the first of the two
  abbrev repeated : List Frame
  repeated = before ++ (frame c trace ∷ (between ++ (frame d trace ∷ after)))

  abbrev merged : List Frame
  merged = before ++ (frame (c + d) trace ∷ (between ++ after))

  sum_merged : (w : Frame → ℕ) → w (frame c trace) + w (frame d trace) ≡ w (frame (c + d) trace)
      → sum (map w repeated) ≡ sum (map w merged)
  sum_merged w e = simp sum_append (omega (arith, e))

  cases_where_merged : (test : List ℕ → Bool) → cases_where test repeated ≡ cases_where test merged
  cases_where_merged test = simp cases_where_sum (sum_merged (cases_if test) (go (test trace)))
    where
      go : (b : Bool) → cond b c 0 + cond b d 0 ≡ cond b (c + d) 0
      go true = refl
      go false = refl

  counts_merged : (p : Place) → case_counts p repeated ≡ case_counts p merged
  unfolding case_counts
  counts_merged p = simp cases_where_merged

  total_merged : total_cases repeated ≡ total_cases merged
  unfolding total_cases
  total_merged = sum_merged (λ f. f.cases) refl

  -- two frames with one trace count as one frame with the cases of both
  pub equal_frames : JudgedAlike repeated merged
  unfolding verdict
  equal_frames =
      record {
        counts = counts_merged;
        total = total_merged;
        verdicts = λ T p. ap₂ (verdict_of T) total_merged (counts_merged p);
      }
