-- `cover_choice::Remainder::is_balanced` meets its contract: the two searches for a word that can be
-- the next part, one rich in inputs and one poor, are the two tests of the definition.
-- Assumes nothing.
use Prim.Native.Nat.{ℕ}
use mathlib.Core.Path.{sym, ◌∙◌}
use mathlib.Core.Bool.{Bool, ◌&&◌}
use borrow.Author.Tests.{tests}
use Rattle.std.proofs.Common.{rules}
use Rattle.std.proofs.lemmas.Iterator.{YieldsList-from_slice}
use Rattle.std.proofs.lemmas.Iterator.Search.{any_from_yields_List}
use Rattle.reduction_spec.specs.Cover.{usable, many_inputs, few_inputs, balanced}
use Rattle.cover_choice.proofs.Remainder.is_balanced.Goals as goal

pub returns-then-any : goal.returns-then-any
unfolding balanced
returns-then-any c =
    let r = c.args.self in
    let rich : ℕ → Bool = λ (w : ℕ). usable r.whole r.left w && many_inputs r.left w in
    let poor : ℕ → Bool = λ (w : ℕ). usable r.whole r.left w && few_inputs r.left w in
    let first = any_from_yields_List rich _ _ c.any.result c.any.ensures.ran (YieldsList-from_slice r.words.now cc) (λ x b q k. search (rules, tests)) in
    let second = any_from_yields_List poor _ _ c.any-then-any.result c.any-then-any.ensures.ran (YieldsList-from_slice r.words.now cc) (λ x b q k. search (rules, tests)) in
    rw (sym first ∙ c.if-any.true) second

pub returns-else-any : goal.returns-else-any
unfolding balanced
returns-else-any c =
    let r = c.args.self in
    let rich : ℕ → Bool = λ (w : ℕ). usable r.whole r.left w && many_inputs r.left w in
    let first = any_from_yields_List rich _ _ c.any.result c.any.ensures.ran (YieldsList-from_slice r.words.now cc) (λ x b q k. search (rules, tests)) in
    rw (sym first ∙ c.if-any.false) c.if-any.false
