-- Which answer of the search, and which of the reduction, is behind an answer of the listing.
-- Assumes nothing.
use Rattle.std.specs.Prelude.{Option, None, Some, Result, Ok, Err}
use Prim.Native.Nat.{ℕ}
use mathlib.Core.Path.{◌≡◌, refl}
use mathlib.Core.Bool.{false}
use mathlib.Core.List.{List}
use Rattle.foundation.proofs.laws.Booleans.{by_test, impossible}
use Rattle.limits.specs.declared.Refusal.{Refusal}
use Rattle.limits.specs.Refusals.{answered}
use Rattle.discovery_spec.specs.declared.End.TheVariants as End
use Rattle.discovery_spec.specs.declared.Run.{Run}
use Rattle.discovery_spec.specs.Search.{is_completed}
use Rattle.discovery_spec.proofs.laws.Ends.{completed_end}
use Rattle.reduction_spec.specs.Reduction.{reduced}
use Rattle.listing.specs.declared.Listing.{Listing}
use Rattle.listing.specs.declared.Listing.TheVariants.{Incomplete, Complete}
use Rattle.listing.specs.Listing.{found_in, listing_of}

-- the listing after a search that is refused so, or else has this run
abbrev listed : Option Refusal → Run → List ℕ → ℕ → Result Listing Refusal
listed o x found room = listing_of (answered o x) found room

-- the search was not refused, and the run is its own, which stopped or completed
pub record Stopped (o : Option Refusal) (x y : Run) : Type 0 where
  pub passes : o ≡ None
  pub own : y ≡ x
  pub early : is_completed x.end ≡ false

pub record Completed (o : Option Refusal) (x y : Run) : Type 0 where
  pub passes : o ≡ None
  pub own : y ≡ x
  pub ended : x.end ≡ End.Completed

pub was_refused : (o : Option Refusal) (x : Run) (found : List ℕ) (room : ℕ) (r : Refusal) → listed o x found room ≡ Err r → o ≡ Some r
unfolding listing_of
was_refused None x found room r e = impossible (cc)
was_refused (Some refusal) x found room r e = cc

pub was_incomplete : (o : Option Refusal) (x : Run) (found : List ℕ) (room : ℕ) (y : Run) → listed o x found room ≡ Ok (Incomplete y) → Stopped o x y
unfolding listing_of
was_incomplete None x found room y e =
    by_test
    (is_completed x.end)
    (λ t. let h = rw t at e in impossible (cc))
    (λ f. let h = rw f at e in record { passes = refl; own = cc; early = f })
was_incomplete (Some refusal) x found room y e = impossible (cc)

pub was_complete : (o : Option Refusal) (x : Run) (found : List ℕ) (room : ℕ) (y : Run) (d : Result ℕ Refusal) → listed o x found room ≡ Ok (Complete y d)
    → Completed o x y × (d ≡ reduced (found_in x found) room)
unfolding listing_of
was_complete None x found room y d e =
    by_test
    (is_completed x.end)
    (λ t. let h = rw t at e in (record { passes = refl; own = cc; ended = completed_end x.end t }, cc))
    (λ f. let h = rw f at e in impossible (cc))
was_complete (Some refusal) x found room y d e = impossible (cc)
