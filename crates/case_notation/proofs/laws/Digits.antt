-- A number read digit by digit.
-- Assumes nothing.
use Rattle.std.proofs.Common.{ℕ, ◌+◌, ◌<◌, ◌≡◌, List, length, drop, get_or, ap}
use Rattle.std.specs.Prelude.{option_and_then}
use Rattle.std.proofs.lemmas.List.{drop_more}
use Rattle.case_notation.specs.Numbers.{longer, continued}

-- the digits from an index on are the one there and those after it
pub one_read : (base number at : ℕ) (digits : List ℕ) → at < length digits
    → continued base number (drop at digits) ≡ option_and_then (λ n. continued base n (drop (at + 1) digits)) (longer base number (get_or digits at 0))
unfolding continued
one_read base number at digits inside = ap (continued base number) (drop_more digits at 0 inside)
