-- The words of a list that pass a test, written into a buffer one after the other: one that does
-- not pass changes nothing, and one that does is stored after those so far.
-- Assumes nothing.
use Prim.Native.Nat.{ℕ, ◌+◌, ◌≤◌, ◌<◌}
use native.Mathlib.Numerals.{add-one}
use native.Mathlib.Omega.{arith}
use mathlib.Core.Path.{◌≡◌, refl, sym, ap, ap₂, ◌∙◌}
use mathlib.Core.Bool.{Bool, true, false}
use mathlib.Core.List.{List, [], ◌∷◌, ◌++◌, append-nil}
use lib.ListN.{length, get_or, take, drop, set, length-set, length-append, take-append-drop}
use lib.Seq.{take-suc, take_all, take-append_seam, drop-cons}
use Rattle.std.specs.List.{filter}
use Rattle.foundation.specs.Buffers.{overwrite}
use Rattle.foundation.proofs.laws.Buffers.{overwrite_more, overwrite_room}
use Rattle.std.proofs.lemmas.List.Elements.{filter-append}

-- those before an index stand in front of the buffer, and were counted
pub record KeptSo (test : ℕ → Bool) (words before kept : List ℕ) (count at : ℕ) : Type 0 where
  pub room : length kept ≡ length before
  pub counted : count ≡ length (filter test (take at words))
  pub few : count ≤ at
  pub written : kept ≡ overwrite (filter test (take at words)) before

module _ {test : ℕ → Bool} {words before : List ℕ} where
  pub none_kept : KeptSo test words before before 0 0
  none_kept = record { room = refl; counted = refl; few = omega arith; written = refl }

  module _ {kept : List ℕ} {count at : ℕ} (k : KeptSo test words before kept count at) (l : at < length words) where
    next : filter test (take (at + 1) words) ≡ filter test (take at words) ++ filter test (get_or words at 0 ∷ [])
    next =
        ap (filter test) (ap (λ (n : ℕ). take n words) (add-one at) ∙ take-suc words at 0 l)
        ∙ filter-append test (take at words) (get_or words at 0 ∷ [])

    -- a word that does not pass
    pub drop_next : test (get_or words at 0) ≡ false → KeptSo test words before kept count (at + 1)
    drop_next e =
        let same : filter test (take (at + 1) words) ≡ filter test (take at words) = next ∙ rw e (append-nil (filter test (take at words))) in
        record {
          room = k.room;
          counted = k.counted ∙ sym (ap length same);
          few = omega (arith, k.few);
          written = k.written ∙ sym (ap (λ (front : List ℕ). overwrite front before) same);
        }

    module _ (e : test (get_or words at 0) ≡ true) where
      more : filter test (take (at + 1) words) ≡ filter test (take at words) ++ (get_or words at 0 ∷ [])
      more = next ∙ rw e refl

      longer : length (filter test (take (at + 1) words)) ≡ count + 1
      longer = omega (arith, k.counted, ap length more, length-append (filter test (take at words)) (get_or words at 0 ∷ []))

      -- one that does, stored where it belongs
      pub keep_next : count < length kept → KeptSo test words before (set kept count (get_or words at 0)) (count + 1) (at + 1)
      keep_next room =
          let w = get_or words at 0 in
          record {
            room = length-set kept count w ∙ k.room;
            counted = sym longer;
            few = omega (arith, k.few);
            written =
                ap₂ (λ (b : List ℕ) (n : ℕ). set b n w) k.written k.counted
                ∙ overwrite_more before (filter test (take at words)) w (omega (arith, k.counted, ap length k.written))
                ∙ sym (ap (λ (front : List ℕ). overwrite front before) more);
          }

      -- one for which there is no room: those that pass are more than the buffer takes, and it holds as
      -- many of them as it takes
      pub no_room : length kept ≤ count
          → (length before < length (filter test words)) × (kept ≡ overwrite (take (length before) (filter test words)) before)
      no_room full =
          let some : List ℕ = filter test (take at words) in
          let later : List ℕ = filter test (drop at words) in
          let all : filter test words ≡ some ++ later =
          ap (filter test) (sym (take-append-drop at words)) ∙ filter-append test (take at words) (drop at words) in
          let filled : length before ≡ length some =
          omega (arith, k.room, k.counted, ap length k.written, length-append some (drop (length some) before)) in (
            omega (arith, filled, ap length all, length-append some later, more_later),
            k.written
                ∙ sym (
                ap
                (λ (front : List ℕ). overwrite front before)
                (ap₂ take filled all ∙ take-append_seam some later)
                ),
          )
        where
          -- this word is one of them
          more_later : 1 ≤ length (filter test (drop at words))
          more_later = rw (drop-cons words at 0 l, e) (omega arith)

  pub all_kept : {kept : List ℕ} {count at : ℕ} → KeptSo test words before kept count at → length words ≤ at
      → (count ≡ length (filter test words)) × (kept ≡ overwrite (filter test words) before)
  all_kept {at = at} k end =
      let all = take_all at words end in
      (rw all at k.counted, rw all at k.written)

  -- then the buffer had room for them
  pub all_fit : {kept : List ℕ} {count at : ℕ} → KeptSo test words before kept count at → length words ≤ at
      → length (filter test words) ≤ length before
  all_fit k end = overwrite_room before (filter test words) (sym (ap length (all_kept k end).1) ∙ k.room)
