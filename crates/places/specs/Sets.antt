-- Sets of activity codes as 16-bit numbers, code a as 2 to the power a. Document 01, "Tokens in one
-- trace".
-- Assumes nothing.
use Rattle.std.specs.Prelude.{ℕ, ◌/◌, ◌%◌, ◌^◌, Bool, not, ◌||◌, List, map, eqb, length}
use Rattle.foundation.specs.Lists.{sum, up_to}
use Rattle.std.specs.List.{filter, list_all, list_any}
use Rattle.limits.specs.Settings.{most_activities}

-- how often code a stands in the set s: once or not at all
abbrev pub has : ℕ → ℕ → ℕ
has s a = s / 2 ^ a % 2

-- code a is in the set
abbrev pub member : ℕ → ℕ → Bool
member s a = eqb (has s a) 1

-- the set's codes in ascending order
unfoldable pub codes : ℕ → List ℕ
codes s = filter (member s) (up_to most_activities)

-- how many codes the set has
unfoldable pub size : ℕ → ℕ
size s = length (codes s)

-- every code of s is one of t
unfoldable pub within : ℕ → ℕ → Bool
within s t = list_all (member t) (codes s)

-- no code of s is one of t
unfoldable pub disjoint : ℕ → ℕ → Bool
disjoint s t = not (list_any (member t) (codes s))

-- the codes of s and of t together
unfoldable pub union : ℕ → ℕ → ℕ
union s t = sum (map (λ (a : ℕ). 2 ^ a) (filter (λ (a : ℕ). member s a || member t a) (up_to most_activities)))
