-- `cover_choice::Remainder::choose` meets its contract: what no word or too few words can cover is
-- what is left without those that enough can, and the highest of it is an activity with the fewest
-- choices; where words are not balanced there is no cover.
-- Assumes nothing.
use Prim.Native.Nat.{ℕ, ◌-◌, ◌≤◌, ◌<◌}
use native.Mathlib.Omega.{arith}
use mathlib.Core.Path.{◌≡◌, sym}
use Rattle.cover_choice.specs.Choosing.{Chosen}
use Rattle.reduction_spec.proofs.laws.Parts.{part_le}
use Rattle.reduction_spec.proofs.laws.Balance.{unbalanced}
use Rattle.cover_choice.proofs.laws.Rarity.{twice_part, thrice_part, no_cover, single, double, some_word}
use Rattle.cover_choice.proofs.Remainder.choose.Goals as goal

-- a part that is not the whole leaves something
apart : (w l : ℕ) → w ≤ l → (w ≡ l → ⊥) → 0 < l - w
apart w l small differ = omega (arith, differ)

pub returns-then-tally-self : goal.returns-then-tally-self
unfolding Chosen
returns-then-tally-self c = no_cover c.tally-tally.ensures c.if-tally-self.true

pub overflow_sub-self : goal.overflow_sub-self
overflow_sub-self c = part_le _ _ (twice_part c.tally-tally.ensures)

pub highest-requires : goal.highest-requires
highest-requires c = apart _ _ (part_le _ _ (twice_part c.tally-tally.ensures)) c.if-tally-self-2.true

pub returns-then-tally-self-2 : goal.returns-then-tally-self-2
unfolding Chosen
returns-then-tally-self-2 c =
    let highest = c.highest in
    single
    c.tally-tally.ensures
    c.if-tally-self.false
    highest.result
    highest.ensures.known
    highest.ensures.has

pub overflow_sub-self-then-tally-self-3 : goal.overflow_sub-self-then-tally-self-3
overflow_sub-self-then-tally-self-3 c = part_le _ _ (thrice_part c.tally-tally.ensures)

pub highest-requires-then-tally-self-3 : goal.highest-requires-then-tally-self-3
highest-requires-then-tally-self-3 c = apart _ _ (part_le _ _ (thrice_part c.tally-tally.ensures)) c.if-tally-self-3.true

pub returns-then-tally-self-3 : goal.returns-then-tally-self-3
unfolding Chosen
returns-then-tally-self-3 c =
    let highest = c.highest-then-tally-self-3 in
    double
    c.tally-tally.ensures
    c.if-tally-self.false
    highest.result
    highest.ensures.known
    c.if-tally-self-2.false
    highest.ensures.has

pub returns-then-not-is_balanced : goal.returns-then-not-is_balanced
unfolding Chosen
returns-then-not-is_balanced c = unbalanced (sym c.if-not-is_balanced.ensures) λ e. omega (arith, e, c.requires)

pub returns : goal.returns
unfolding Chosen
returns c =
    record {
      fewest = c.rarest.ensures;
      coverable = some_word c.tally-tally.ensures c.if-tally-self.false c.rarest.ensures;
      in_balance = λ many. sym c.if-not-is_balanced.ensures;
    }
