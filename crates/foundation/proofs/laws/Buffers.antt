-- Items written from the front of a buffer: its front alone changes nothing, an item stored after
-- the front makes the front longer by that item, and items put into the part behind it by these;
-- the items can be taken back, and writing more items over fewer is writing the more.
-- Assumes nothing.
use Prim.Native.Nat.{ℕ, suc, ◌+◌, ◌-◌, ◌≤◌, ◌<◌}
use native.Mathlib.Omega.{arith}
use mathlib.Core.Path.{◌≡◌, refl, sym, ap, ◌∙◌}
use mathlib.Core.List.{List, [], ◌∷◌, ◌++◌, append_assoc}
use borrow.Rule.Slice.PartMut.{put_mid}
use lib.ListN.{length, take, drop, set, length-append, take-append-drop}
use lib.Seq.{length-take-le, set_split, append_snoc, take-append_seam, drop-append-add, drop-drop, take_at, drop_at}
use Rattle.foundation.specs.Buffers.{overwrite}

module _ {A : Type 0} (buffer : List A) where
  -- its own front
  pub overwrite_front : (n : ℕ) → n ≤ length buffer → overwrite (take n buffer) buffer ≡ buffer
  overwrite_front n h = rw (length-take-le n buffer h) (take-append-drop n buffer)

  -- one item more
  pub overwrite_next : (n : ℕ) (x : A) → n < length buffer → set buffer n x ≡ overwrite (take n buffer ++ (x ∷ [])) buffer
  overwrite_next n x h =
      set_split buffer n x h
      ∙ sym (append_snoc (take n buffer) x (drop (suc n) buffer))
      ∙ ap (λ (k : ℕ). take n buffer ++ (x ∷ []) ++ drop k buffer) longer
    where
      longer : suc n ≡ length (take n buffer ++ (x ∷ []))
      longer = omega (arith, length-append (take n buffer) (x ∷ []), length-take-le n buffer (omega arith))

  pub take_overwritten : (items : List A) → take (length items) (overwrite items buffer) ≡ items
  take_overwritten items = take-append_seam items (drop (length items) buffer)

  pub overwrite_again : (first second : List A) → length first ≤ length second
      → overwrite second (overwrite first buffer) ≡ overwrite second buffer
  overwrite_again first second h =
      ap (◌++◌ second) (
      rw (longer)
      (drop-append-add first (drop (length first) buffer) more ∙ drop-drop more (length first) buffer)
      )
    where
      more : ℕ
      more = length second - length first

      longer : length second ≡ length first + more
      longer = omega arith

  -- what leaves the buffer as long as it was had room in it
  pub overwrite_room : (items : List A) → length (overwrite items buffer) ≡ length buffer → length items ≤ length buffer
  overwrite_room items e = omega (arith, length-append items (drop (length items) buffer))

-- one item more after those that were written
pub overwrite_more : {A : Type 0} (buffer items : List A) (x : A) → length items < length (overwrite items buffer)
    → set (overwrite items buffer) (length items) x ≡ overwrite (items ++ (x ∷ [])) buffer
overwrite_more buffer items x l =
    overwrite_next (overwrite items buffer) (length items) x l
    ∙ ap (λ front. overwrite (front ++ (x ∷ [])) (overwrite items buffer)) (take_overwritten buffer items)
    ∙ overwrite_again buffer items (items ++ (x ∷ [])) (omega (arith, length-append items (x ∷ [])))

-- the part that stands directly behind what was written
pub overwrite_part : {A : Type 0} (buffer front more : List A) (at room : ℕ) → at ≡ length front → room ≡ length more
    → put_mid at room (overwrite front buffer) more ≡ overwrite (front ++ more) buffer
overwrite_part buffer front more at room e f =
    rw (
      e,
      f,
      take_at front (drop (length front) buffer) (length front) refl,
      drop_at front (drop (length front) buffer) (length front) refl,
      drop-drop (length more) (length front) buffer,
      length-append front more,
    ) (sym (append_assoc front more (drop (length front + length more) buffer)))
