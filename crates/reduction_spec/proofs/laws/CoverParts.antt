-- For a cover of what is left of a whole only the words matter that can be parts of it: each word
-- of the cover is a part of what is left when it is taken away, which is a part of what was left
-- before.
-- Assumes nothing.
use Prim.Native.Nat.{ℕ, ◌-◌}
use native.Mathlib.Omega.{arith}
use mathlib.Core.Logic.{◌↔◌}
use mathlib.Core.List.{List}
use lib.Bits.{and_self}
use Rattle.foundation.proofs.laws.Each.{each_filter}
use Rattle.foundation.proofs.laws.Members.{member_filter}
use Rattle.reduction_spec.specs.Cover.{Listable, usable, Cover, nothing_left, take_part, parts_of}
use Rattle.reduction_spec.proofs.laws.Parts.{Part, part_has, bits_part}
use Rattle.reduction_spec.proofs.laws.Covers.{usable_parts, parts_usable}

pub parts_listable : (words : List ℕ) (whole left : ℕ) → Listable words → Listable (parts_of words whole left)
unfolding Listable parts_of
parts_listable words whole left places = each_filter (usable whole left) places

-- a part of a part, and what a part leaves
pub part_trans : (w l whole : ℕ) → Part w l → Part l whole → Part w whole
part_trans w l whole e f = bits_part w whole λ a. omega (arith, part_has w l a e, part_has l whole a f)

pub part_rest : (w l : ℕ) → Part w l → Part (l - w) l
part_rest w l e = bits_part (l - w) l λ a. omega (arith, part_has w l a e)

module _ {words : List ℕ} {whole : ℕ} (left : ℕ) where
  to_parts : {rest : ℕ} → Part rest left → Cover words whole rest → Cover (parts_of words whole left) whole rest
  unfolding parts_of
  to_parts small nothing_left = nothing_left
  to_parts small (take_part {left = rest} w m u cover) =
      let own = usable_parts whole rest w u in
      take_part
      w
      ((member_filter (usable whole left) words).1 (m, parts_usable whole left w (part_trans w rest left own.0 small) own.1))
      u
      (to_parts (part_trans (rest - w) rest left (part_rest w rest own.0) small) cover)

  from_parts : {rest : ℕ} → Cover (parts_of words whole left) whole rest → Cover words whole rest
  unfolding parts_of
  from_parts nothing_left = nothing_left
  from_parts (take_part w m u cover) = take_part w ((member_filter (usable whole left) words).0 m).0 u (from_parts cover)

  -- what is left itself
  pub cover_parts : Cover (parts_of words whole left) whole left ↔ Cover words whole left
  cover_parts = (from_parts, to_parts (and_self left))
