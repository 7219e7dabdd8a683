-- `replay::judgement::add_cases` meets its contract: the signs of the two balances, read back from
-- their bits, are those of the definition, so the count at the number of the trace's verdict grows.
-- Assumes nothing.
use mathlib.Core.Path.{◌≡◌}
use Prim.Native.Nat.{ℕ}
use borrow.Author.Rules.{rules}
use lib.IntN.{pos}
use lib.Signed.{lt_z}
use mir.Syntax.{w16}
use mir.Val.{SFits, of_z, to_z}
use Rattle.token_replay.proofs.laws.EventBits.{below_zero, above_zero}
use Rattle.replay_spec.specs.Judgement.{verdict_where, mark}
use Rattle.token_replay.specs.declared.Tokens.{Tokens}
use Rattle.replay.specs.Replaying.{kind_of, with_cases}
use Rattle.replay.proofs.judgement.add_cases.Goals as goal

-- the number is that of the definition
kind : (t : Tokens) (number : ℕ) → SFits w16 t.least → SFits w16 t.balance
    → number ≡ mark (verdict_where (lt_z (to_z w16 (of_z w16 t.least)) (pos 0)) (lt_z (pos 0) (to_z w16 (of_z w16 t.balance))))
    → number ≡ kind_of t
unfolding kind_of
kind t number least balance e = rw (← below_zero t.least least, ← above_zero t.balance balance) e

pub overflow_add-counts : goal.overflow_add-counts
overflow_add-counts c =
    record { fits = rw (kind c.args.tokens _ (search rules) (search rules) c.verdict_number-kind.ensures.0) c.requires }

pub returns : goal.returns
unfolding with_cases
returns c = rw (kind c.args.tokens _ (search rules) (search rules) c.verdict_number-kind.ensures.0)
