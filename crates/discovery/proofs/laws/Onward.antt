-- How a run in memory is carried on, part by part. `Reached` says that what is still to come, from
-- the counts and buffers as they are now, ends as the whole run from the counts and buffers at the
-- start. It holds at the start. A function that takes the front of what is to come, and leaves what
-- its progress says, leads to the rest, or, where it stopped, to the end of the whole run.
-- Assumes nothing.
use Rattle.std.specs.Prelude.{Result, Ok, Err}
use Rattle.std.specs.Borrow.{MutBor}
use Prim.Native.Nat.{ℕ, ◌+◌, ◌≤◌}
use native.Mathlib.Omega.{arith}
use native.Mathlib.Nat.{le_refl}
use mathlib.Core.Path.{◌≡◌, refl, sym, ap, ◌∙◌}
use mathlib.Core.List.{List, [], ◌∷◌, ◌++◌}
use lib.ListN.{length, take, length-append}
use Rattle.foundation.specs.Lists.{Each}
use Rattle.std.specs.List.{fold}
use Rattle.foundation.specs.Buffers.{overwrite}
use Rattle.foundation.proofs.laws.Buffers.{take_overwritten, overwrite_again}
use Rattle.places.specs.declared.Place.{Place}
use Rattle.replay_spec.specs.declared.Verdict.{Verdict}
use Rattle.discovery_spec.specs.declared.End.{End}
use Rattle.discovery_spec.specs.Search.{Capacity, State, Progress, going, stopped, step, state_of}
use Rattle.discovery_spec.specs.Discovery.{capacity_of}
use Rattle.discovery_spec.proofs.laws.RunSteps.{Grown, run_grown, run_visits}
use Rattle.candidate_visit.specs.declared.RunState.{RunState}
use Rattle.candidate_visit.specs.Standing.{state_in, room_in, ended, Holds, Leaves}
use Rattle.candidate_visit.proofs.laws.AsTheyAre.{how_many, as_it_is}
use Rattle.discovery.specs.Searching.{outcome, Carries}
use Rattle.discovery.proofs.laws.PrunedAside.{NotBelow, pruning, pruning_below, run_aside}

-- two runs that answer the same, count the same and have the same words
pub record Alike (p q : Progress) : Type 0 where
  pub answers : outcome p ≡ outcome q
  pub replays : (state_of p).replays ≡ (state_of q).replays
  pub visits : (state_of p).visits ≡ (state_of q).visits
  pub rejected : (state_of p).rejected ≡ (state_of q).rejected
  pub found : (state_of p).found ≡ (state_of q).found

alike_same : {p q : Progress} → p ≡ q → Alike p q
alike_same e = rw e (record { answers = refl; replays = refl; visits = refl; rejected = refl; found = refl })

alike_trans : {p q r : Progress} → Alike p q → Alike q r → Alike p r
alike_trans a b =
    record {
      answers = a.answers ∙ b.answers;
      replays = a.replays ∙ b.replays;
      visits = a.visits ∙ b.visits;
      rejected = a.rejected ∙ b.rejected;
      found = a.found ∙ b.found;
    }

-- what was pruned is no part of it
aside_alike : (ps : List Place) (p : Progress) → Alike p (pruning_below ps p)
unfolding state_of
aside_alike ps (going s) = record { answers = refl; replays = refl; visits = refl; rejected = refl; found = refl }
aside_alike ps (stopped end s) = record { answers = refl; replays = refl; visits = refl; rejected = refl; found = refl }

-- progress that goes on, by its answer, or that has stopped with an end
pub record GoesOn (p : Progress) : Type 0 where
  pub state : State
  pub on : p ≡ going state

pub record HasStopped (p : Progress) (end : End) : Type 0 where
  pub state : State
  pub off : p ≡ stopped end state

pub goes_on : {X : Type 0} (x : X) {answer : X} (p : Progress) → Ok answer ≡ ended x p → GoesOn p
goes_on x (going s) e = record { state = s; on = refl }
goes_on x (stopped end s) e = cc

pub has_stopped : {X : Type 0} (x : X) (p : Progress) {end : End} → Err end ≡ ended x p → HasStopped p end
has_stopped x (going s) e = cc
has_stopped x (stopped end s) e = record { state = s; off = cc }

module _ (verdict : Place → Verdict) (room : Capacity) where
  run_stopped : (end : End) (s : State) (cs : List Place) → fold (step verdict room) (stopped end s) cs ≡ stopped end s
  unfolding step
  run_stopped end s [] = refl
  run_stopped end s (c ∷ cs) = run_stopped end s cs

  run_append : (p : Progress) (front rest : List Place)
      → fold (step verdict room) p (front ++ rest) ≡ fold (step verdict room) (fold (step verdict room) p front) rest
  run_append p [] rest = refl
  run_append p (c ∷ front) rest = run_append (step verdict room p c) front rest

-- the words that a buffer holds are those that were written
words_held : {words : List ℕ} {before after : MutBor (List ℕ)} {count : ℕ} → Holds words before after count → take count after.now ≡ words
words_held {words} {before} h = rw (h.count_is, h.left) (take_overwritten before.now words)

-- a part of a run that left its words in the buffers
module _ {before after : RunState} where
  -- the state in the buffers is that of the progress, but for what was pruned
  state_back : (s : State) → Leaves (going s) before after → s ≡ pruning s.pruned (state_in after)
  unfolding state_in state_of
  state_back s left = rw (left.replays, left.visits, words_held left.rejected, words_held left.found)

  -- so what comes after it can be made from the buffers
  resumed : (verdict : Place → Verdict) (room : Capacity) (s : State) → Leaves (going s) before after → {rest : List Place}
      → Each (NotBelow s.pruned) rest
      → Alike (fold (step verdict room) (going (state_in after)) rest) (fold (step verdict room) (going s) rest)
  resumed verdict room s left {rest} clear =
      let back = state_back s left in
      let again : Progress = going (state_in after) in
      alike_trans
      (aside_alike s.pruned (fold (step verdict room) again rest))
      (alike_same (sym (ap (λ (t : State). fold (step verdict room) (going t) rest) back ∙ run_aside s.pruned verdict room again clear)))

-- a buffer with so many words that is as long as it was at the start, and of which the tail beyond
-- its words is as it was
pub record Onward (start now : MutBor (List ℕ)) (count : ℕ) : Type 0 where
  pub same_length : length now.now ≡ length start.now
  pub tail : (words : List ℕ) → count ≤ length words → overwrite words now.now ≡ overwrite words start.now
  pub same_buffer : now.ghost_name ≡ start.ghost_name

onward_start : (buffer : MutBor (List ℕ)) (count : ℕ) → Onward buffer buffer count
onward_start buffer count = record { same_length = refl; tail = λ words l. refl; same_buffer = refl }

-- with more words
module _
    {start now after : MutBor (List ℕ)}
    {count more : ℕ}
    {words : List ℕ}
    (at : Onward start now count)
    (grown : count ≤ length words)
    (h : Holds words now after more)
  where
    onward_more : Onward start after more
    onward_more =
        record {
          same_length = h.same_length ∙ at.same_length;
          tail =
              λ further l.
              rw h.left (overwrite_again now.now words further (omega (arith, h.count_is)) ∙ at.tail further (omega (arith, h.count_is)));
          same_buffer = h.same_buffer ∙ at.same_buffer;
        }

    -- what the whole run holds, where its words are these
    held_whole : {all : List ℕ} → words ≡ all → Holds all start after more
    held_whole e =
        rw (sym e) (
        record {
          count_is = h.count_is;
          left = h.left ∙ at.tail words grown;
          same_length = h.same_length ∙ at.same_length;
          same_buffer = h.same_buffer ∙ at.same_buffer;
        }
        )

-- a run at its start: the verdicts and the budget, the candidates, and the counts and the two
-- buffers
pub record Beginning : Type 0 where
  pub verdict : Place → Verdict
  pub budget : ℕ
  pub candidates : List Place
  pub run : RunState

-- the run over some candidates, from counts and buffers on
abbrev pub over : Beginning → List Place → RunState → Progress
over b cs w = fold (step b.verdict (room_in w b.budget)) (going (state_in w)) cs

-- the whole run
abbrev pub whole : Beginning → Progress
whole b = over b b.candidates b.run

-- what a function owes that made the whole run
abbrev pub Done : Beginning → Result (Unit {0}) End → RunState → Type 0
Done b = Carries (whole b) b.run

-- what is to come ends as the whole run
pub record Reached (b : Beginning) (rest : List Place) (w : RunState) : Type 0 where
  pub rejected : Onward b.run.rejected w.rejected w.rejected_count
  pub found : Onward b.run.found w.found w.found_count
  pub alike : Alike (over b rest w) (whole b)

pub reached_start : (b : Beginning) → Reached b b.candidates b.run
reached_start b =
    record {
      rejected = onward_start b.run.rejected b.run.rejected_count;
      found = onward_start b.run.found b.run.found_count;
      alike = alike_same refl;
    }

module _ {b : Beginning} {w : RunState} where
  module _ {rest : List Place} (at : Reached b rest w) (p : Progress) (grown : Grown (state_in w) p) where
    -- the words that the state had are among those after it
    rejected_grown : w.rejected_count ≤ length (state_of p).rejected
    unfolding state_in
    rejected_grown = omega (arith, grown.rejected, how_many w.rejected w.rejected_there)

    found_grown : w.found_count ≤ length (state_of p).found
    unfolding state_in
    found_grown = omega (arith, grown.found, how_many w.found w.found_there)

    -- what progress that ends as the whole run leaves is what the whole run leaves
    leaves_whole : Alike p (whole b) → {after : RunState} → Leaves p w after → Leaves (whole b) b.run after
    leaves_whole like left =
        record {
          replays = left.replays ∙ like.replays;
          visits = left.visits ∙ like.visits;
          rejected = held_whole at.rejected rejected_grown left.rejected like.rejected;
          found = held_whole at.found found_grown left.found like.found;
        }

  -- nothing is to come
  pub reached_end : Reached b [] w → Done b (Ok tt) w
  unfolding state_of state_in
  reached_end at =
      record {
        answered = at.alike.answers;
        leaves =
            leaves_whole
            at
            (going (state_in w))
            (record { rejected = le_refl _; found = le_refl _ })
            at.alike
            (record { replays = refl; visits = refl; rejected = as_it_is w.rejected w.rejected_there; found = as_it_is w.found w.found_there });
      }

  -- the front was taken
  module _ (front rest : List Place) (at : Reached b (front ++ rest) w) where
    abbrev room : Capacity
    room = room_in w b.budget

    -- what the front came to
    abbrev taken : Progress
    taken = over b front w

    joined : over b (front ++ rest) w ≡ fold (step b.verdict room) taken rest
    joined = run_append b.verdict room (going (state_in w)) front rest

    grown : Grown (state_in w) taken
    unfolding state_of
    grown = run_grown b.verdict room front (going (state_in w))

    module _ {after : RunState} (left : Leaves taken w after) where
      -- a candidate counts as one visit at most
      pub visits_left : after.visits + length rest ≤ w.visits + length (front ++ rest)
      unfolding state_in state_of
      visits_left =
          omega (
            arith,
            run_visits b.verdict room front (going (state_in w)),
            left.visits,
            length-append front rest,
          )

      -- and it stopped the run
      pub reached_stop : {end : End} → HasStopped taken end → Done b (Err end) after
      reached_stop {end} has =
          let all = joined
          ∙ ap (λ (p : Progress). fold (step b.verdict room) p rest) has.off
          ∙ run_stopped b.verdict room end has.state rest
          ∙ sym has.off
          in
          let like = alike_trans (alike_same (sym all)) at.alike in
          record {
            answered = ap outcome (sym has.off) ∙ like.answers;
            leaves = leaves_whole at taken grown like left;
          }

      -- the buffers give the same room
      same_room : room_in after b.budget ≡ room
      unfolding capacity_of
      same_room = rw (left.rejected.same_length, left.found.same_length)

      -- and it goes on
      module _ (has : GoesOn taken) (clear : Each (NotBelow (state_of taken).pruned) rest) where
        alike_onward : Alike (over b rest after) (whole b)
        unfolding state_of
        alike_onward =
            let all = joined ∙ ap (λ (p : Progress). fold (step b.verdict room) p rest) has.on in
            let again = resumed b.verdict room has.state (rw has.on at left) (rw has.on at clear) in
            rw same_room (alike_trans again (alike_trans (alike_same (sym all)) at.alike))

        pub reached_on : Reached b rest after
        reached_on =
            record {
              rejected = onward_more at.rejected (rejected_grown at taken grown) left.rejected;
              found = onward_more at.found (found_grown at taken grown) left.found;
              alike = alike_onward;
            }
