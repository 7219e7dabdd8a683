-- Settings that are in their ranges: what the tests of the four say; and the first of the four that
-- fails decides.
-- Assumes nothing.
use Prim.Native.Nat.{◌≤◌}
use mathlib.Core.Path.{◌≡◌}
use mathlib.Core.Bool.{Bool, true, false, ◌&&◌, and-eq-true_iff}
use lib.Dec.{leb}
use borrow.Author.Tests.{leb-true}
use Rattle.limits.specs.declared.Settings.{Settings}
use Rattle.limits.specs.Settings.{most_activities, bound_in_range, size_in_range, threshold_in_range, settings_in_range}

pub record InRange (s : Settings) : Type 0 where
  pub bound : bound_in_range s.activities ≡ true
  pub some_activities : 2 ≤ s.activities
  pub few_activities : s.activities ≤ most_activities
  pub some_inputs : 1 ≤ s.inputs
  pub some_outputs : 1 ≤ s.outputs
  pub small_threshold : s.threshold ≤ 1000

pub in_range : (s : Settings) → settings_in_range s ≡ true → InRange s
unfolding settings_in_range bound_in_range size_in_range threshold_in_range
in_range s e =
    let A = s.activities in
    let bound = leb 2 A && leb A most_activities in
    let inputs = leb 1 s.inputs && leb s.inputs A in
    let outputs = leb 1 s.outputs && leb s.outputs A in
    let outer = (and-eq-true_iff (bound && inputs && outputs) (leb s.threshold 1000)).0 e in
    let middle = (and-eq-true_iff (bound && inputs) outputs).0 outer.0 in
    let inner = (and-eq-true_iff bound inputs).0 middle.0 in
    let range = (and-eq-true_iff (leb 2 A) (leb A most_activities)).0 inner.0 in
    record {
      bound = inner.0;
      some_activities = leb-true 2 A range.0;
      few_activities = leb-true A most_activities range.1;
      some_inputs = leb-true 1 s.inputs ((and-eq-true_iff (leb 1 s.inputs) (leb s.inputs A)).0 inner.1).0;
      some_outputs = leb-true 1 s.outputs ((and-eq-true_iff (leb 1 s.outputs) (leb s.outputs A)).0 middle.1).0;
      small_threshold = leb-true s.threshold 1000 outer.1;
    }

module _ (s : Settings) where
  pub bound_fails : bound_in_range s.activities ≡ false → false ≡ settings_in_range s
  unfolding settings_in_range
  bound_fails e = rw e

  module _ (bound : bound_in_range s.activities ≡ true) where
    pub inputs_fail : size_in_range s.activities s.inputs ≡ false → false ≡ settings_in_range s
    unfolding settings_in_range
    inputs_fail e = rw (bound, e)

    module _ (inputs : size_in_range s.activities s.inputs ≡ true) where
      pub outputs_fail : size_in_range s.activities s.outputs ≡ false → false ≡ settings_in_range s
      unfolding settings_in_range
      outputs_fail e = rw (bound, inputs, e)

      pub threshold_decides : size_in_range s.activities s.outputs ≡ true → (t : Bool) → t ≡ threshold_in_range s.threshold
          → t ≡ settings_in_range s
      unfolding settings_in_range
      threshold_decides outputs t e = rw (bound, inputs, outputs) e
