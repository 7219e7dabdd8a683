-- The words that can be parts of what is left, gathered in a buffer. Where it takes all, the answer
-- is their number, they can be taken from its front, and to know whether there is a cover of what is
-- left it is enough to look for one among them.
-- Assumes nothing.
use Rattle.std.specs.Prelude.{None, Some}
use Prim.Native.Nat.{ℕ, ◌≤◌, ◌<◌}
use native.Mathlib.Omega.{arith}
use mathlib.Core.Path.{◌≡◌, refl, sym, ap, ap₂, ◌∙◌}
use mathlib.Core.Logic.{◌↔◌}
use mathlib.Core.Bool.{Bool, true}
use mathlib.Core.List.{List}
use borrow.Author.Tests.{le-leb, lt-leb, leb-true}
use lib.Dec.{leb}
use lib.ListN.{length, take, drop, get_or, length-append}
use lib.Seq.{take_all, length-take-le}
use Rattle.foundation.specs.Buffers.{overwrite}
use Rattle.std.specs.List.{filter}
use Rattle.foundation.proofs.laws.Booleans.{by_test}
use Rattle.foundation.proofs.laws.Buffers.{take_overwritten}
use Rattle.reduction_spec.specs.Cover.{Listable, Cover, usable, parts_of}
use Rattle.reduction_spec.proofs.laws.CoverParts.{parts_listable, cover_parts}
use Rattle.exact_cover.specs.Gathering.{gathered, gathered_after}
use Rattle.exact_cover.proofs.laws.KeptWords.{KeptSo, none_kept, drop_next, keep_next, no_room, all_kept, all_fit}

module _ {words : List ℕ} (whole left : ℕ) {before kept : List ℕ} {count at : ℕ} (k : KeptSo (usable whole left) words before kept count at) where
  -- the answer, and what the buffer holds, where it takes all of them
  module _ (end : length words ≤ at) where
    pub all_gathered : Some count ≡ gathered words whole left (length before)
    unfolding gathered parts_of
    all_gathered = ap Some (all_kept k end).0 ∙ rw (le-leb (length (filter (usable whole left) words)) (length before) (all_fit k end)) refl

    pub all_held : kept ≡ gathered_after words whole left before
    unfolding gathered_after parts_of
    all_held =
        (all_kept k end).1
        ∙ sym (ap (λ (front : List ℕ). overwrite front before) (take_all (length before) (filter (usable whole left) words) (all_fit k end)))

  -- and where there is no room for the next of them
  module _ (l : at < length words) (e : usable whole left (get_or words at 0) ≡ true) (full : length kept ≤ count) where
    pub some_gathered : None ≡ gathered words whole left (length before)
    unfolding gathered parts_of
    some_gathered = rw (lt-leb (length (filter (usable whole left) words)) (length before) (no_room k l e full).0) refl

    pub some_held : kept ≡ gathered_after words whole left before
    unfolding gathered_after parts_of
    some_held = (no_room k l e full).1

-- what a loop over the words needs
pub ruleset gathering = (none_kept, drop_next, keep_next, all_gathered, all_held, some_gathered, some_held)

-- what is known where the answer is a number
module _ (words : List ℕ) (whole left : ℕ) (before : List ℕ) {after : List ℕ} {count : ℕ} (told : Some count ≡ gathered words whole left (length before))
    (held : after ≡ gathered_after words whole left before) where
  -- the buffer takes all of them, and that is how many they are
  counted : (length (parts_of words whole left) ≤ length before) × (count ≡ length (parts_of words whole left))
  unfolding gathered
  counted =
      by_test
      (leb (length (parts_of words whole left)) (length before))
      (λ e. (leb-true (length (parts_of words whole left)) (length before) e, let same = rw e at told in cc))
      (λ e. let none = rw e at told in cc)

  written : after ≡ overwrite (parts_of words whole left) before
  unfolding gathered_after
  written = held ∙ ap (λ (front : List ℕ). overwrite front before) (take_all (length before) (parts_of words whole left) counted.0)

  pub gathered_room : count ≤ length after
  gathered_room =
      omega (
        arith,
        counted.1,
        ap length written,
        length-append (parts_of words whole left) (drop (length (parts_of words whole left)) before),
      )

  front_parts : take count after ≡ parts_of words whole left
  front_parts =
      ap₂ (λ (n : ℕ) (buffer : List ℕ). take n buffer) counted.1 written
      ∙ take_overwritten before (parts_of words whole left)

  -- its front is a list of places where the words are
  pub gathered_listable : Listable words → Listable (take count after)
  gathered_listable places = rw front_parts (parts_listable words whole left places)

  -- there is a cover among its front where there is one among the words
  pub cover_gathered : Cover words whole left → Cover (take count after) whole left
  cover_gathered cover = rw front_parts ((cover_parts left).1 cover)

  pub gathered_cover : Cover (take count after) whole left → Cover words whole left
  gathered_cover cover = (cover_parts left).0 (rw front_parts at cover)

  -- so a search over its front says whether there is a cover
  pub found_gathered : {found : Bool} → (found ≡ true) ↔ Cover (take count after) whole left → (found ≡ true) ↔ Cover words whole left
  found_gathered answers = (λ e. gathered_cover (answers.0 e), λ cover. answers.1 (cover_gathered cover))

-- what a search over them needs
pub ruleset searching = (gathered_room, length-take-le, gathered_listable, cover_gathered, gathered_cover)
