-- `listing::list_places` meets its contract: what the search answers and leaves is handed on, and
-- what a completed run found is reduced.
-- Assumes nothing.
use Rattle.std.proofs.Math.ListN.{length-take}
use Rattle.std.proofs.lemmas.Result.{err_from_is_err_and}
use native.Mathlib.Omega.{arith}
use mathlib.Core.Path.{refl, sym}
use Rattle.discovery_spec.specs.Discovery.{capacity_of}
use Rattle.discovery_spec.proofs.laws.AnswerLaws.{answer_within}
use Rattle.listing.proofs.laws.AfterSearch.{search_refused, search_stopped, search_completed}
use Rattle.listing.proofs.list_places.Goals as goal

pub returns-in_err-run : goal.returns-in_err-run
returns-in_err-run c =
    let search = c.in_err-run.ensures in
    let answer = err_from_is_err_and c.from_residual.result c.from_residual.ensures.1 in
    rw (answer.1, answer.2) (search_refused search.answer search.cache search.list _ refl)

pub returns-then-not-is_completed : goal.returns-then-not-is_completed
returns-then-not-is_completed c =
    let search = c.in_ok-run.ensures in
    search_stopped search.answer search.cache search.list _ refl (sym c.if-not-is_completed.ensures)

pub slice_bounds-reduce-end : goal.slice_bounds-reduce-end
unfolding capacity_of
slice_bounds-reduce-end c = omega (arith, (answer_within _ _ _ _ (sym c.in_ok-run.ensures.answer)).found_fits, c.discover.auto.found)

pub slice_bounds-reduce-end-2 : goal.slice_bounds-reduce-end-2
unfolding capacity_of
slice_bounds-reduce-end-2 c =
    simp length-take (omega (arith, (answer_within _ _ _ _ (sym c.in_ok-run.ensures.answer)).found_fits, c.discover.auto.found))

pub returns : goal.returns
returns c =
    let search = c.in_ok-run.ensures in
    let reduction = c.reduce-reduced.ensures in
    search_completed search.answer search.cache search.list _ refl (sym c.if-not-is_completed.ensures) _ _ reduction.answer reduction.list
