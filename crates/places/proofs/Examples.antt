-- The definitions of sets, places and their order, tried on small sets and on the places of the
-- source's Figure 1 and Definitions 9 to 11.
-- Assumes nothing.
use Rattle.std.specs.Prelude.{None, Some}
use Prim.Native.Nat.{ℕ}
use mathlib.Core.Path.{◌≡◌, refl}
use mathlib.Core.Bool.{true, false}
use mathlib.Core.Logic.{inl, inr}
use mathlib.Core.List.{List, [], ◌∷◌, map}
use lib.Dec.{lit<}
use lib.ListN.{length}
use Rattle.limits.specs.declared.Refusal.TheVariants.{InvalidPlace, BufferTooSmall}
use Rattle.places.specs.declared.Place.{Place}
use Rattle.places.specs.Sets.{codes, size, within, disjoint, union}
use Rattle.places.specs.Places.{place, word, place_of, place_fault, words_refusal, lighter, non_overlapping, join}
use Rattle.places.specs.Order.{ends, lower, same, SetBefore, PlaceBefore}
use Rattle.places.specs.Candidates.{candidate_set, candidate, sets, candidates, extends, descends}
use Rattle.places.specs.Succession.{set_after, set_past}
use Rattle.places.proofs.Opened.{opened}

pub record SetExamples : Type 0 where
  pub ascending : codes 0x8025 ≡ 0 ∷ 2 ∷ 5 ∷ 15 ∷ []
  pub sized : map size (0 ∷ 1 ∷ 0x8025 ∷ 0xFFFF ∷ []) ≡ 0 ∷ 1 ∷ 4 ∷ 16 ∷ []
  pub part : map (within 0x0005) (0x0005 ∷ 0x0007 ∷ 0x0006 ∷ []) ≡ true ∷ true ∷ false ∷ []
  pub apart : map (disjoint 0x0005) (0x000A ∷ 0x0006 ∷ []) ≡ true ∷ false ∷ []
  pub together : union 0x0005 0x0006 ≡ 0x0007

-- {0}, {0,1}, {0,1,2}, {0,2}, {1}, {1,2}, {2}: the order as a list, and as a relation of each to
-- the next
pub record OrderExamples : Type 0 where
  pub of_three : sets 3 3 ≡ 1 ∷ 3 ∷ 7 ∷ 5 ∷ 2 ∷ 6 ∷ 4 ∷ []
  pub of_two : sets 3 2 ≡ 1 ∷ 3 ∷ 5 ∷ 2 ∷ 6 ∷ 4 ∷ []
  pub of_one : sets 3 1 ≡ 1 ∷ 2 ∷ 4 ∷ []
  pub as_many : length (sets 10 10) ≡ 1023
  pub shorter_first : SetBefore 1 3 × SetBefore 3 7 × SetBefore 2 6
  pub lower_first : SetBefore 7 5 × SetBefore 5 2 × SetBefore 6 4
  pub outputs_first : PlaceBefore (place 4 1) (place 1 3)
  pub then_inputs : PlaceBefore (place 3 2) (place 5 2)
  pub listed :
      candidates (record { activities = 2; inputs = 1; outputs = 2; threshold = 0 })
      ≡ place 1 1 ∷ place 2 1 ∷ place 1 3 ∷ place 2 3 ∷ place 1 2 ∷ place 2 2 ∷ []
  pub sized :
      map
      (candidate (record { activities = 3; inputs = 1; outputs = 2; threshold = 0 }))
      (place 4 6 ∷ place 6 4 ∷ place 1 7 ∷ place 8 1 ∷ place 0 1 ∷ [])
      ≡ true ∷ false ∷ false ∷ false ∷ false ∷ []
  pub extended : map (extends 2) (2 ∷ 6 ∷ 14 ∷ 3 ∷ 7 ∷ 4 ∷ []) ≡ false ∷ true ∷ true ∷ false ∷ false ∷ false ∷ []
  -- after {0,1}, after {2}, and of a set that is not listed; past {0} and {0,1}, past {1} and {2}
  pub after : map (λ (s : ℕ). set_after s (sets 3 2)) (3 ∷ 4 ∷ 7 ∷ []) ≡ 5 ∷ 0 ∷ 0 ∷ []
  pub past : map (λ (s : ℕ). set_past s (sets 3 3)) (1 ∷ 3 ∷ 2 ∷ 4 ∷ []) ≡ 2 ∷ 5 ∷ 4 ∷ 0 ∷ []
  pub candidate_sets : map (candidate_set 3 2) (0 ∷ 1 ∷ 6 ∷ 7 ∷ 8 ∷ []) ≡ false ∷ true ∷ true ∷ false ∷ false ∷ []
  pub same_outputs : map (descends (place 1 2)) (place 3 2 ∷ place 3 6 ∷ []) ≡ true ∷ false ∷ []

-- p1 to p5 of Figure 1, with the codes 0 for the start, 1 for the end and 2 to 5 for a to d
abbrev pub figure1 : List Place
figure1 = place 0x0001 0x0004 ∷ place 0x0001 0x0008 ∷ place 0x0004 0x0030 ∷ place 0x0008 0x0030 ∷ place 0x0030 0x0002 ∷ []

pub record PlaceExamples : Type 0 where
  pub written : word (place 0x0030 0x0002) ≡ 0x00020030
  pub read : map place_of (0x00020030 ∷ 0xFFFF0001 ∷ []) ≡ place 0x0030 0x0002 ∷ place 0x0001 0xFFFF ∷ []
  pub refused :
      map (place_fault 6 9) (place 0x003F 0x0001 ∷ place 0x0040 0x0001 ∷ place 0x0001 0x0040 ∷ place 0 1 ∷ place 1 0 ∷ [])
      ≡ None ∷ Some (InvalidPlace 9) ∷ Some (InvalidPlace 9) ∷ Some (InvalidPlace 9) ∷ Some (InvalidPlace 9) ∷ []
  pub first_refused : words_refusal (0x80008000 ∷ 0x00010000 ∷ 0 ∷ []) true ≡ Some (InvalidPlace 1)
  pub short_refused : words_refusal (0x80008000 ∷ []) true ≡ Some BufferTooSmall
  pub accepted : words_refusal (0x80008000 ∷ []) false ≡ None
  -- the text after Definition 11: ({a}, {b, c}) is at least as light as ({a}, {b}), and not as
  -- ({a}, {d})
  pub light : map (lighter (place 0x0004 0x0018)) (place 0x0004 0x0008 ∷ place 0x0004 0x0020 ∷ []) ≡ true ∷ false ∷ []
  pub light_inputs : map (lighter (place 0x0004 0x0008)) (place 0x000C 0x0008 ∷ place 0x0008 0x0008 ∷ []) ≡ true ∷ false ∷ []
  pub apart : non_overlapping (place 0x0001 0x0004) (place 0x0030 0x0002) ≡ true
  pub shares_input : non_overlapping (place 0x0031 0x0004) (place 0x0030 0x0002) ≡ false
  pub shares_output : non_overlapping (place 0x0001 0x0006) (place 0x0030 0x0002) ≡ false
  -- the text before Definition 9: p1 and p5 together
  pub joined : join (place 0x0001 0x0004) (place 0x0030 0x0002) ≡ place 0x0031 0x0006

pub set_examples : SetExamples
unfolding opened
set_examples = record { ascending = refl; sized = refl; part = refl; apart = refl; together = refl }

pub order_examples : OrderExamples
unfolding opened
order_examples =
    record {
      of_three = refl;
      of_two = refl;
      of_one = refl;
      as_many = refl;
      shorter_first = (same ends, same (same ends), same ends);
      lower_first = (same (lower (lit< tt)), lower (lit< tt), lower (lit< tt));
      outputs_first = inl (same ends);
      then_inputs = inr (refl, same (lower (lit< tt)));
      listed = refl;
      sized = refl;
      extended = refl;
      after = refl;
      past = refl;
      candidate_sets = refl;
      same_outputs = refl;
    }

pub place_examples : PlaceExamples
unfolding opened
place_examples =
    record {
      written = refl;
      read = refl;
      refused = refl;
      first_refused = refl;
      short_refused = refl;
      accepted = refl;
      light = refl;
      light_inputs = refl;
      apart = refl;
      shares_input = refl;
      shares_output = refl;
      joined = refl;
    }
