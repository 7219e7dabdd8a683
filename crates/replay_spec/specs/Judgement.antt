-- Judging a place over a log. Document 01, "Tokens in one trace", second paragraph; the source's
-- Definition 13 with its strict comparison.
-- Assumes nothing.
use Rattle.std.specs.Prelude.{ℕ, ◌+◌, ◌*◌, Bool, true, false, not, ◌&&◌, List, ltb}
use Rattle.std.specs.List.{filter}
use Rattle.places.specs.declared.Place.{Place}
use Rattle.event_log_spec.specs.Frames.{Frame, total_cases}
use Rattle.replay_spec.specs.declared.CaseCounts.{CaseCounts}
use Rattle.replay_spec.specs.declared.Verdict.{Verdict}
use Rattle.replay_spec.specs.declared.Verdict.TheVariants.{Fitting, Underfed, Overfed, Both}
use Rattle.replay_spec.specs.Balance.{underfeeds, overfeeds}

-- the cases of the frames whose trace passes the test
unfoldable pub cases_where : (List ℕ → Bool) → List Frame → ℕ
cases_where test frames = total_cases (filter (λ (f : Frame). test f.trace) frames)

-- the four case counts: of the frames that do neither, only the one, only the other, both
unfoldable pub case_counts : Place → List Frame → CaseCounts
case_counts p frames =
    record {
      fitting = cases_where (λ (t : List ℕ). not (underfeeds t p) && not (overfeeds t p)) frames;
      underfed = cases_where (λ (t : List ℕ). underfeeds t p && not (overfeeds t p)) frames;
      overfed = cases_where (λ (t : List ℕ). not (underfeeds t p) && overfeeds t p) frames;
      both = cases_where (λ (t : List ℕ). underfeeds t p && overfeeds t p) frames;
    }

-- all cases of four case counts
abbrev pub cases_of : CaseCounts → ℕ
cases_of c = c.fitting + c.underfed + c.overfed + c.both

-- u and v of document 01: all cases underfed, and all overfed
unfoldable pub underfed_cases : CaseCounts → ℕ
underfed_cases c = c.underfed + c.both

unfoldable pub overfed_cases : CaseCounts → ℕ
overfed_cases c = c.overfed + c.both

-- the share of some cases in all of them is above T thousandths, strictly
unfoldable pub exceeds : ℕ → ℕ → ℕ → Bool
exceeds T total cases = ltb (T * total) (1000 * cases)

-- the verdict where underfed and overfed are so
abbrev pub verdict_where : Bool → Bool → Verdict
verdict_where true true = Both
verdict_where true false = Underfed
verdict_where false true = Overfed
verdict_where false false = Fitting

-- underfed at T, overfed at T, each by its own share; fitting where neither
unfoldable pub verdict_of : ℕ → ℕ → CaseCounts → Verdict
verdict_of T total c = verdict_where (exceeds T total (underfed_cases c)) (exceeds T total (overfed_cases c))

-- the verdict on a place over a log's frames at T
unfoldable pub verdict : ℕ → List Frame → Place → Verdict
verdict T frames p = verdict_of T (total_cases frames) (case_counts p frames)

-- the number of a verdict, which marks the word of a rejected place: 1 underfed, 2 overfed, 3 both,
-- and 0 of a fitting one
unfoldable pub mark : Verdict → ℕ
mark Fitting = 0
mark Underfed = 1
mark Overfed = 2
mark Both = 3
