-- One name for all definitions of this layer and of those below it: a proof by computation says
-- `unfolding opened`.
-- Assumes nothing.
use Rattle.discovery_spec.specs.Rejected.{rejected_word, mark_in, place_in, rules_underfed, rules_overfed, ruled_overfed, ruled}
use Rattle.discovery_spec.specs.Search.{end_number, is_completed, start, visited, replayed_once, with_found, with_rejected, with_pruned, proceed, is_pruned, accept, reject, conclude, replay, visit, step, search, end_of, state_of}
use Rattle.discovery_spec.specs.Discovery.{run_with, summary, run_refusal_with, discovered_with, replays_in, capacity_of, found_after_with, rejected_after_with}
use Rattle.discovery_spec.specs.TwoRuns.{is_fitting, fits, fitting_candidates, found_by, Completes, FoundAll}
use Rattle.replay_spec.proofs.Opened.{opened as opened_balances}

unfoldable pub opened : Unit {0}
unfolding rejected_word mark_in place_in rules_underfed rules_overfed ruled_overfed ruled end_number is_completed start visited replayed_once with_found with_rejected with_pruned proceed is_pruned accept reject conclude replay visit step search end_of state_of run_with summary run_refusal_with discovered_with replays_in capacity_of found_after_with rejected_after_with is_fitting fits fitting_candidates found_by Completes FoundAll opened_balances
opened = tt
