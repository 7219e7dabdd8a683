-- `reporter::report_log` meets its contract: what the listing answers and leaves says what is
-- written of the log. Its reduction is never refused, so that arm is never taken.
-- Assumes nothing.
use Rattle.std.specs.Prelude.{Result, Ok, Err}
use Rattle.std.proofs.Common.{◌≡◌, ◌≤◌, ◌∙◌, ap, length, replicate, arith, ℕ, List}
use Rattle.std.proofs.Math.Nat.{le_refl}
use Rattle.std.proofs.Math.ListN.{length-take}
use Rattle.discovery_spec.specs.Discovery.{capacity_of}
use Rattle.discovery_spec.specs.declared.Run.{Run}
use Rattle.limits.specs.declared.Refusal.{Refusal}
use Rattle.limits.specs.declared.Settings.{Settings}
use Rattle.listing.specs.declared.Listing.{Listing}
use Rattle.listing.specs.declared.Listing.TheVariants.{Incomplete, Complete}
use Rattle.listing.specs.Listing.{Resources, resources_of, GoesAsWritten}
use Rattle.reporter_spec.specs.Program.{capacity}
use Rattle.reporter.proofs.laws.RunListed.{Reports, listing_refused, listing_stopped, listing_completed, reduction_passes}
use Rattle.reporter.proofs.laws.LogReports.{refused_report, run_report, count_fits}
use Rattle.reporter.proofs.report_log.Goals as goal

-- what the listing is to be given: the capacity of the program, and a second buffer as long as the list
unfoldable resources : Resources
resources = resources_of (replicate capacity.rejected 0) (replicate capacity.found 0) (replicate capacity.found 0) capacity.budget

as_long : length resources.found ≤ length resources.kept
unfolding resources
as_long = le_refl (length resources.found)

module _ {s : Settings} {text : List ℕ} {answer : Result Listing Refusal} {rejected found kept : List ℕ} (goes : GoesAsWritten s text resources answer rejected found kept) where
  -- the run of a listing that stopped, and the words of its list
  stopped : (x : Run) → answer ≡ Ok (Incomplete x) → Reports s text capacity x x.found found
  unfolding resources capacity_of capacity
  stopped x e = listing_stopped goes x e

  -- the run of one that completed, and the words of its second buffer
  completed : (x : Run) (d : Result ℕ Refusal) (count : ℕ) → answer ≡ Ok (Complete x d) → d ≡ Ok count → Reports s text capacity x count kept
  unfolding resources capacity_of capacity
  completed x d count e k = listing_completed goes as_long x count (e ∙ ap (λ (y : Result ℕ Refusal). Ok (Complete x y)) k)

  never : (x : Run) (d : Result ℕ Refusal) (r : Refusal) → answer ≡ Ok (Complete x d) → d ≡ Err r → ⊥
  never x d r e k = reduction_passes goes as_long x r (e ∙ ap (λ (y : Result ℕ Refusal). Ok (Complete x y)) k)

pub slice_bounds-found-end : goal.slice_bounds-found-end
unfolding resources capacity
slice_bounds-found-end c = omega (arith, count_fits (stopped c.list_places.ensures _ (c.in-Ok-Incomplete.is ∙ ap Ok c.in-Ok-Incomplete.field-0-is)), c.list_places.auto.found)

pub slice_bounds-write_report-end : goal.slice_bounds-write_report-end
unfolding resources capacity
slice_bounds-write_report-end c =
    simp length-take (omega (arith, count_fits (stopped c.list_places.ensures _ (c.in-Ok-Incomplete.is ∙ ap Ok c.in-Ok-Incomplete.field-0-is)), c.list_places.auto.found))

pub slice_bounds-kept-end : goal.slice_bounds-kept-end
unfolding resources capacity
slice_bounds-kept-end c = omega (arith, count_fits (completed c.list_places.ensures _ _ _ (c.in-Ok-Complete.is ∙ ap Ok c.in-Ok-Complete.field-0-is) c.in-Ok.is), c.list_places.auto.kept)

pub slice_bounds-write_report-end-in-Ok : goal.slice_bounds-write_report-end-in-Ok
unfolding resources capacity
slice_bounds-write_report-end-in-Ok c =
    simp length-take (omega (arith, count_fits (completed c.list_places.ensures _ _ _ (c.in-Ok-Complete.is ∙ ap Ok c.in-Ok-Complete.field-0-is) c.in-Ok.is), c.list_places.auto.kept))

pub returns-in-Err : goal.returns-in-Err
unfolding resources capacity
returns-in-Err c =
    rw (refused_report c.args.settings c.args.text.now (listing_refused c.list_places.ensures _ c.in-Err.is)) c.write_refusal.ensures

pub returns-in-Ok-Incomplete : goal.returns-in-Ok-Incomplete
unfolding resources capacity
returns-in-Ok-Incomplete c = rw (run_report (stopped c.list_places.ensures _ (c.in-Ok-Incomplete.is ∙ ap Ok c.in-Ok-Incomplete.field-0-is))) c.write_report.ensures

pub returns-in-Ok : goal.returns-in-Ok
unfolding resources capacity
returns-in-Ok c = rw (run_report (completed c.list_places.ensures _ _ _ (c.in-Ok-Complete.is ∙ ap Ok c.in-Ok-Complete.field-0-is) c.in-Ok.is)) c.write_report-in-Ok.ensures

pub returns-in-Err-reduced : goal.returns-in-Err-reduced
unfolding resources capacity
returns-in-Err-reduced c = absurd (never c.list_places.ensures _ _ _ (c.in-Ok-Complete.is ∙ ap Ok c.in-Ok-Complete.field-0-is) c.in-Err-reduced.is)
