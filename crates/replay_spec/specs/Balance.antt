-- Tokens in one trace. Document 01, "Tokens in one trace"; the source's Definition 5.
-- Assumes nothing.
use Rattle.std.specs.Prelude.{ℕ, suc, Bool, cond, List, [], ◌∷◌, map, ℤ, pos, length, take}
use Rattle.std.proofs.Math.IntN.{sub_ℕ}
use Rattle.std.specs.Int.Signed.{lt_z, le_z}
use Rattle.foundation.specs.Lists.{sum, up_to}
use Rattle.places.specs.declared.Place.{Place}
use Rattle.places.specs.Sets.{has}

-- how many of the events are in the set
unfoldable pub count : ℕ → List ℕ → ℕ
count s events = sum (map (has s) events)

-- the balance at event k: the inputs before it, less the outputs up to and with it
unfoldable pub balance_at : Place → List ℕ → ℕ → ℤ
balance_at p trace k = sub_ℕ (count p.inputs (take k trace)) (count p.outputs (take (suc k) trace))

-- the smaller of two numbers
abbrev pub smaller : ℤ → ℤ → ℤ
smaller a b = cond (le_z a b) a b

-- the least of some numbers; 0 of none, which no trace has
unfoldable pub least_of : List ℤ → ℤ
least_of [] = pos 0
least_of (n ∷ []) = n
least_of (n ∷ (m ∷ ns)) = smaller n (least_of (m ∷ ns))

-- the least balance over the events, the low of document 01
unfoldable pub least_balance : Place → List ℕ → ℤ
least_balance p trace = least_of (map (balance_at p trace) (up_to (length trace)))

-- the balance after the last event, the end of document 01
unfoldable pub last_balance : Place → List ℕ → ℤ
last_balance p trace = sub_ℕ (count p.inputs trace) (count p.outputs trace)

-- a trace underfeeds the place if a token is missing at some event, and overfeeds it if tokens are
-- left at the end (Definition 5); it may do both
unfoldable pub underfeeds : List ℕ → Place → Bool
underfeeds trace p = lt_z (least_balance p trace) (pos 0)

unfoldable pub overfeeds : List ℕ → Place → Bool
overfeeds trace p = lt_z (pos 0) (last_balance p trace)
