-- The source's Theorem 2 for shares of all cases, with the strict comparison of its Definition 13:
-- for places p and q of which p is at least as light, every trace that underfeeds q underfeeds p,
-- and every trace that overfeeds p overfeeds q; so it is with the case counts over a log, and with
-- their shares at every T. Among any events the lighter place has at most as many inputs and at
-- least as many outputs, so none of its balances is above that of the other.
-- Assumes nothing.
use Prim.Native.Nat.{ℕ, suc, ◌*◌, ◌≤◌, ◌<◌}
use native.Mathlib.Nat.{le_refl}
use native.Mathlib.Omega.{arith}
use mathlib.Core.Path.{◌≡◌, refl}
use mathlib.Core.Bool.{Bool, true, false, cond}
use mathlib.Core.List.{List, [], ◌∷◌}
use lib.IntN.{pos}
use lib.Signed.{le_z}
use lib.ListN.{length, take}
use borrow.Author.Tests.{lt-ltb, ltb-true}
use Rattle.foundation.specs.Lists.{Each}
use Rattle.foundation.proofs.laws.Each.{each_imply, each_take}
use Rattle.foundation.proofs.laws.Sums.{sum_le}
use Rattle.foundation.proofs.laws.Integers.{le_z_refl, le_z_trans, le_z_lt_z_trans, lt_z_le_z_trans, difference_le}
use Rattle.limits.specs.Settings.{most_activities}
use Rattle.places.specs.declared.Place.{Place}
use Rattle.places.specs.Sets.{has, within}
use Rattle.places.specs.Places.{lighter}
use Rattle.places.proofs.laws.Lighter.{within_has, lighter_sets}
use Rattle.event_log_spec.specs.Frames.{Frame, WrittenLog, total_cases}
use Rattle.replay_spec.specs.Balance.{count, balance_at, least_balance, last_balance, underfeeds, overfeeds}
use Rattle.replay_spec.specs.Judgement.{cases_where, case_counts, underfed_cases, overfed_cases, exceeds}
use Rattle.replay_spec.proofs.laws.Extremes.{least_reached, least_at_most}
use Rattle.replay_spec.proofs.laws.Counts.{cases_if, cases_where_sum, underfed_all, overfed_all}

-- every activity of the trace has a code that a set can name
abbrev pub Known : List ℕ → Type 0
Known trace = Each (λ (a : ℕ). a < most_activities) trace

-- a set within another counts no more events
pub count_within : (s t : ℕ) {events : List ℕ} → Known events → within s t ≡ true → count s events ≤ count t events
unfolding count
count_within s t known e = sum_le (has s) (has t) (each_imply (within_has s t e) known)

-- the cases under a test are at most those under another that holds wherever the first does
cases_le : (a b : List ℕ → Bool) (frames : List Frame) → Each (λ (f : Frame). a f.trace ≡ true → b f.trace ≡ true) frames
    → cases_where a frames ≤ cases_where b frames
cases_le a b frames e =
    simp cases_where_sum (sum_le (cases_if a) (cases_if b) (each_imply (λ f. go (a f.trace) (b f.trace) f.cases) e))
  where
    go : (x y : Bool) (n : ℕ) → (x ≡ true → y ≡ true) → cond x n 0 ≤ cond y n 0
    go true y n h = rw (h refl) (le_refl n)
    go false y n h = omega arith

-- a share of more cases is above T wherever that of fewer is
exceeds_more : (T total : ℕ) {few many : ℕ} → few ≤ many → exceeds T total few ≡ true → exceeds T total many ≡ true
unfolding exceeds
exceeds_more T total {few} {many} h e = lt-ltb (T * total) (1000 * many) (omega (arith, ltb-true))

-- how the cases of a place p over a log's frames compare with those of a place q
pub record Monotone (p q : Place) (frames : List Frame) : Type 0 where
  -- no more cases are underfed at q than at p
  pub underfed : underfed_cases (case_counts q frames) ≤ underfed_cases (case_counts p frames)
  -- no more cases are overfed at p than at q
  pub overfed : overfed_cases (case_counts p frames) ≤ overfed_cases (case_counts q frames)
  -- at every T where q is underfed, so is p
  pub underfed_at : (T : ℕ) → exceeds T (total_cases frames) (underfed_cases (case_counts q frames)) ≡ true
      → exceeds T (total_cases frames) (underfed_cases (case_counts p frames)) ≡ true
  -- at every T where p is overfed, so is q
  pub overfed_at : (T : ℕ) → exceeds T (total_cases frames) (overfed_cases (case_counts p frames)) ≡ true
      → exceeds T (total_cases frames) (overfed_cases (case_counts q frames)) ≡ true

module _ (p q : Place) (light : lighter p q ≡ true) where
  inputs_le : {events : List ℕ} → Known events → count p.inputs events ≤ count q.inputs events
  inputs_le known = count_within p.inputs q.inputs known (lighter_sets p q light).0

  outputs_le : {events : List ℕ} → Known events → count q.outputs events ≤ count p.outputs events
  outputs_le known = count_within q.outputs p.outputs known (lighter_sets p q light).1

  balance_le : (trace : List ℕ) (k : ℕ) → Known trace → le_z (balance_at p trace k) (balance_at q trace k) ≡ true
  unfolding balance_at
  balance_le trace k known =
      difference_le
      (count p.inputs (take k trace))
      (count p.outputs (take (suc k) trace))
      (count q.inputs (take k trace))
      (count q.outputs (take (suc k) trace))
      (omega (arith, inputs_le (each_take k known), outputs_le (each_take (suc k) known)))

  least_below : (trace : List ℕ) → Known trace → (k : ℕ) → k < length trace
      → le_z (least_balance p trace) (balance_at q trace k) ≡ true
  least_below trace known k l =
      le_z_trans
      (least_balance p trace)
      (balance_at p trace k)
      (balance_at q trace k)
      (least_at_most p trace k l)
      (balance_le trace k known)

  least_le : (trace : List ℕ) → Known trace → le_z (least_balance p trace) (least_balance q trace) ≡ true
  unfolding least_balance
  least_le [] known = le_z_refl (least_balance p [])
  least_le (a ∷ events) known =
      let (k, l, e) = least_reached q (a ∷ events) (omega arith) in
      rw e at (least_below (a ∷ events) known k l)

  last_le : (trace : List ℕ) → Known trace → le_z (last_balance p trace) (last_balance q trace) ≡ true
  unfolding last_balance
  last_le trace known =
      difference_le
      (count p.inputs trace)
      (count p.outputs trace)
      (count q.inputs trace)
      (count q.outputs trace)
      (omega (arith, inputs_le known, outputs_le known))

  -- a trace that underfeeds q underfeeds p, the lighter
  pub underfeeds_lighter : (trace : List ℕ) → Known trace → underfeeds trace q ≡ true → underfeeds trace p ≡ true
  unfolding underfeeds
  underfeeds_lighter trace known = le_z_lt_z_trans (least_balance p trace) (least_balance q trace) (pos 0) (least_le trace known)

  -- a trace that overfeeds p overfeeds q, the heavier
  pub overfeeds_heavier : (trace : List ℕ) → Known trace → overfeeds trace p ≡ true → overfeeds trace q ≡ true
  unfolding overfeeds
  overfeeds_heavier trace known e = lt_z_le_z_trans (pos 0) (last_balance p trace) (last_balance q trace) e (last_le trace known)

  module _ (frames : List Frame) (known : Each (λ (f : Frame). Known f.trace) frames) where
    underfed_le : underfed_cases (case_counts q frames) ≤ underfed_cases (case_counts p frames)
    underfed_le =
        rw (underfed_all q frames, underfed_all p frames) (cases_le _ _ frames (each_imply (λ f. underfeeds_lighter f.trace) known))

    overfed_le : overfed_cases (case_counts p frames) ≤ overfed_cases (case_counts q frames)
    overfed_le =
        rw (overfed_all p frames, overfed_all q frames) (cases_le _ _ frames (each_imply (λ f. overfeeds_heavier f.trace) known))

    -- the log's cases, where p is at least as light
    pub monotone : Monotone p q frames
    monotone =
        record {
          underfed = underfed_le;
          overfed = overfed_le;
          underfed_at = λ T. exceeds_more T (total_cases frames) underfed_le;
          overfed_at = λ T. exceeds_more T (total_cases frames) overfed_le;
        }

-- the traces of a log have known codes, so the law holds of every log under a bound that a set can name
pub log_monotone : (A : ℕ) (p q : Place) (frames : List Frame) (text : List ℕ) → A ≤ most_activities → WrittenLog A frames text
    → lighter p q ≡ true → Monotone p q frames
log_monotone A p q frames text bound log light =
    monotone p q light frames (each_imply (λ f u. each_imply (λ a h. omega arith) u.known) log.each)
