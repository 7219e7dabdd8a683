-- Gathering, tried on a place and two parts of it: with room to spare, with room for both, and with
-- room for one.
-- Assumes nothing.
use Rattle.std.specs.Prelude.{None, Some}
use Prim.Native.Nat.{ℕ}
use mathlib.Core.Path.{◌≡◌, refl}
use mathlib.Core.List.{List, [], ◌∷◌}
use Rattle.reduction_spec.proofs.Opened.{opened}
use Rattle.exact_cover.specs.Gathering.{gathered, gathered_after}

-- 1/1, 2/2, both together, and 4/4, which is no part of that
abbrev words : List ℕ
words = 0x00010001 ∷ 0x00020002 ∷ 0x00030003 ∷ 0x00040004 ∷ []

pub record Examples : Type 0 where
  pub all : gathered words 0x00030003 0x00030003 2 ≡ Some 2
  pub too_many : gathered words 0x00030003 0x00030003 1 ≡ None
  -- 2/2 is left: the place itself is no part of it, and neither is 1/1
  pub rest : gathered words 0x00030003 0x00020002 1 ≡ Some 1
  pub tail : gathered_after words 0x00030003 0x00030003 (7 ∷ 8 ∷ 9 ∷ []) ≡ 0x00010001 ∷ 0x00020002 ∷ 9 ∷ []
  pub full : gathered_after words 0x00030003 0x00030003 (7 ∷ 8 ∷ []) ≡ 0x00010001 ∷ 0x00020002 ∷ []
  pub cut : gathered_after words 0x00030003 0x00030003 (7 ∷ []) ≡ 0x00010001 ∷ []

pub examples : Examples
unfolding opened gathered gathered_after
examples = record { all = refl; too_many = refl; rest = refl; tail = refl; full = refl; cut = refl }
