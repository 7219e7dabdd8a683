-- A cover is a partition of what is left into words of the list, none of which is the whole. It
-- takes no word twice, since what a word with a bit leaves has none of its bits, and its words can
-- be taken in any order; so they can be taken in the order of the list, as a choice of its
-- elements.
-- Assumes nothing.
use Prim.Native.Nat.{ℕ, ◌-◌, ◌<◌}
use native.Mathlib.Omega.{arith}
use mathlib.Core.Path.{◌≡◌, refl}
use mathlib.Core.Logic.{◌⊎◌, inl, inr, ⊎_elim}
use mathlib.Core.Bool.{true}
use mathlib.Core.List.Memᴰ
use mathlib.Core.List.{List, [], ◌∷◌, Memᴰ}
use Rattle.foundation.specs.Lists.{Each, each_nil, each_cons, sublists}
use Rattle.foundation.proofs.laws.Sublists.{sublist_skip, sublist_take}
use Rattle.reduction_spec.specs.Cover.{usable, Cover, nothing_left, take_part}
use Rattle.reduction_spec.proofs.laws.Covers.{usable_parts, parts_usable, second_first}
use Rattle.reduction_spec.proofs.laws.Parts.{part_once}
use Rattle.reduction_spec.proofs.laws.Partitions.{Partition}

-- words of the list, none of them the whole, that make up what is left
pub partition_cover : {words : List ℕ} {whole : ℕ} {ws : List ℕ} (left : ℕ) → Each (λ (w : ℕ). Memᴰ w words) ws
    → Each (λ (w : ℕ). w ≡ whole → ⊥) ws → Partition ws left → Cover words whole left
partition_cover left each_nil each_nil made = rw made nothing_left
partition_cover {whole} left (each_cons {x = w} here later) (each_cons other others) made =
    take_part w here (parts_usable whole left w made.0 other) (partition_cover (left - w) later others made.1)

-- a list covers what is left, or what v leaves of it
abbrev EitherCover : ℕ → List ℕ → ℕ → ℕ → Type 0
EitherCover v words whole left = Cover words whole left ⊎ ((usable whole left v ≡ true) × Cover words whole (left - v))

-- a cover does without the list's first word, or can take it first and then does without it
cover_first : {v : ℕ} {words : List ℕ} {whole left : ℕ} → 0 < v → Cover (v ∷ words) whole left → EitherCover v words whole left
cover_first some nothing_left = inl nothing_left
cover_first {v} {words} {whole} some (take_part {left = left} w at fits rest) = go (Memᴰ.cases_cons at) (cover_first some rest)
  where
    go : (w ≡ v) ⊎ Memᴰ w words → EitherCover v words whole (left - w) → EitherCover v words whole left
    go (inl e) (inl without) = inr (rw e at fits, rw e at without)
    go (inl e) (inr first) =
        let once = (usable_parts whole left v (rw e at fits)).0 in
        let again = (usable_parts whole (left - v) v (rw e at first.0)).0 in
        absurd (omega (arith, part_once v left once again))
    go (inr later) (inl without) = inl (take_part w later fits without)
    go (inr later) (inr first) = inr (second_first left w v later fits first.0 first.1)

-- the words of a cover in the order of the list
pub record Choice (words : List ℕ) (whole left : ℕ) : Type 0 where
  pub taken : List ℕ
  pub chosen : Memᴰ taken (sublists words)
  pub made : Partition taken left
  pub others : Each (λ (w : ℕ). w ≡ whole → ⊥) taken

nothing_covered : {whole left : ℕ} → Cover [] whole left → left ≡ 0
nothing_covered nothing_left = refl
nothing_covered (take_part w at fits rest) = absurd (Memᴰ.not-nil at)

pub cover_choice : {words : List ℕ} {whole left : ℕ} → Each (λ (w : ℕ). 0 < w) words → Cover words whole left → Choice words whole left
cover_choice each_nil cover = record { taken = []; chosen = Memᴰ.head refl; made = nothing_covered cover; others = each_nil }
cover_choice {whole} {left} (each_cons {x = v} {xs = words} here later) cover =
    ⊎_elim
    (λ without.
    let choice = cover_choice later without in
    record { taken = choice.taken; chosen = sublist_skip v words choice.chosen; made = choice.made; others = choice.others })
    (λ first.
    let choice = cover_choice later first.1 in
    let parts = usable_parts whole left v first.0 in
    record {
      taken = v ∷ choice.taken;
      chosen = sublist_take v words choice.chosen;
      made = (parts.0, choice.made);
      others = each_cons parts.1 choice.others;
    })
    (cover_first here cover)
