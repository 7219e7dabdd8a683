-- The definitions that the code of the search cites, tried on small inputs: the state that buffers
-- hold, and what a turn answers.
-- Assumes nothing.
use Rattle.std.specs.Prelude.{Ok, Err}
use Rattle.std.specs.Borrow.{MutBor}
use mathlib.Core.Path.{◌≡◌, refl}
use mathlib.Core.Bool.{true, false}
use mathlib.Core.List.{List, [], ◌∷◌}
use Prim.Native.Nat.{ℕ}
use Rattle.places.specs.Places.{place}
use Rattle.discovery_spec.specs.declared.End.TheVariants.{ListFull}
use Rattle.discovery_spec.specs.Search.{start, going, stopped, with_pruned}
use Rattle.candidate_visit.specs.declared.Descendants.TheVariants.{Pruned}
use Rattle.candidate_visit.specs.declared.RunState.{RunState}
use Rattle.candidate_visit.specs.Standing.{state_in, ended, prunes}
use Rattle.candidate_visit.proofs.Opened.{opened}

-- a buffer with this content, and so many words written
pub record Has (buffer : MutBor (List ℕ)) (written : ℕ) (content : List ℕ) (count : ℕ) : Type 0 where
  pub content_is : buffer.now ≡ content
  pub count_is : written ≡ count

pub record StandingExamples : Type 0 where
  -- the words are those at the front, and what lies beyond is not read
  pub held :
      (w : RunState) → Has w.rejected w.rejected_count (7 ∷ 8 ∷ 9 ∷ []) 2 → Has w.found w.found_count (5 ∷ 6 ∷ []) 1
      → state_in w ≡ record { rejected = 7 ∷ 8 ∷ []; found = 5 ∷ []; replays = w.replays; visits = w.visits; pruned = [] }
  pub prunes_nothing : prunes (going start) ≡ false
  pub prunes_one : prunes (going (with_pruned (place 1 2) start)) ≡ true
  pub goes_on : ended Pruned (going start) ≡ Ok Pruned
  pub stops : ended Pruned (stopped ListFull start) ≡ Err ListFull

pub standing_examples : StandingExamples
unfolding opened
standing_examples =
    record {
      held = λ w r f. rw (r.content_is, r.count_is, f.content_is, f.count_is);
      prunes_nothing = refl;
      prunes_one = refl;
      goes_on = refl;
      stops = refl;
    }
