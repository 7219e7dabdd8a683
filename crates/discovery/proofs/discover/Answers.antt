-- `discovery::discover` meets its contract: settings out of their ranges and a text that is no log
-- are refused, and else the log's frames are indexed and the candidates searched from the first on.
-- Assumes nothing.
use Rattle.std.proofs.Common.{◌≡◌, refl, ap, ◌∙◌, Option, Err, unwrap_or, arith, rules}
use lib.Dec.{lit≤}
use Rattle.limits.specs.declared.Refusal.TheVariants.{InvalidSetting}
use Rattle.limits.proofs.laws.SettingsRanges.{in_range}
use Rattle.candidate_order_spec.proofs.laws.Succession.{first_kind}
use Rattle.discovery_spec.specs.declared.End.{End}
use Rattle.discovery_spec.specs.declared.End.TheVariants.{Completed}
use Rattle.discovery_spec.proofs.laws.CallChecks.{not_refused, settings_refused, log_refused, log_accepted}
use Rattle.discovery.proofs.laws.CallAnswers.{log_known, all_countable, refused_answers, run_answers}
use Rattle.discovery.proofs.discover.Goals as goal

pub returns-in_err-unless : goal.returns-in_err-unless
returns-in_err-unless c =
    let a = c.args in
    let out = settings_refused a.settings a.text.now (search rules) in
    let given : c.from_residual.result ≡ Err InvalidSetting = search rules in
    let k = refused_answers a.settings a.text.now a.rejected.now a.found.now a.budget InvalidSetting given out in
    record { answer = k.answer; cache = k.cache; list = k.list; numbered = k.numbered; within = k.within }

pub returns-in_err-check_log : goal.returns-in_err-check_log
returns-in_err-check_log c =
    let a = c.args in
    let r = c.in_err-check_log.field-0.0 in
    let out = log_refused a.settings a.text.now (search rules) r (search rules) in
    let given : c.from_residual-in_err-check_log.result ≡ Err r = search rules in
    let k = refused_answers a.settings a.text.now a.rejected.now a.found.now a.budget r given out in
    record { answer = k.answer; cache = k.cache; list = k.list; numbered = k.numbered; within = k.within }

pub index_log-requires : goal.index_log-requires
index_log-requires c =
    let a = c.args in
    let passes = log_accepted a.settings a.text.now (search rules) c.in_ok-check_log.field-0 (search rules) in
    (log_known _ _ (not_refused a.settings a.text.now passes), lit≤ tt)

pub search_from-requires : goal.search_from-requires
search_from-requires c =
    let s = c.args.settings in
    let ranges = in_range s (search rules) in
    record {
      settings = record {
        some_activities = omega (arith, ranges.some_activities);
        few_activities = ranges.few_activities;
        some_inputs = ranges.some_inputs;
      };
      inputs = first_kind s.activities s.inputs ranges.few_activities (omega (arith, ranges.some_activities)) ranges.some_inputs;
      outputs = first_kind s.activities s.outputs ranges.few_activities (omega (arith, ranges.some_activities)) ranges.some_outputs;
      countable = omega (arith, all_countable s ranges);
    }

pub returns : goal.returns
returns c =
    let a = c.args in
    let passes = log_accepted a.settings a.text.now (search rules) c.in_ok-check_log.field-0 (search rules) in
    let ranges = in_range a.settings (search rules) in
    let carried = rw c.index_log.ensures at c.search_from.ensures.carried in
    let ended = c.unwrap_or.ensures ∙ ap (λ (o : Option End). unwrap_or o Completed) c.err-stopped.ensures.value in
    let k = run_answers a.settings a.text.now a.rejected.now a.found.now a.budget passes ranges _ _ refl refl _ _ carried ended in
    record { answer = k.answer; cache = search rules; list = search rules; numbered = k.numbered; within = k.within }

pub invariant_of-search : goal.invariant_of-search
invariant_of-search c = record { small_threshold = (in_range c.args.settings (search rules)).small_threshold }
