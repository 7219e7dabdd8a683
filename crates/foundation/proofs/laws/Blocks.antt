-- Blocks of one length, put into a buffer one after the other, each behind those before it: a block
-- for each number of a list.
-- Assumes nothing.
use Prim.Native.Nat.{ℕ, ◌+◌, ◌-◌, ◌*◌, ◌≤◌, ◌<◌}
use native.Mathlib.Nat.{mul_comm, mul-le-mul_left}
use native.Mathlib.Numerals.{add-one}
use native.Mathlib.Omega.{arith}
use mathlib.Core.Path.{◌≡◌, refl, sym, ap, ◌∙◌}
use mathlib.Core.List.{List, [], ◌∷◌, ◌++◌, flat_map, append-nil, append_assoc}
use borrow.Rule.Slice.PartMut.{put_mid}
use lib.ListN.{length, get_or, take, drop, length-append, length-drop}
use lib.Seq.{take-suc, take_all, length-take-le}
use Rattle.foundation.specs.Buffers.{overwrite}
use Rattle.foundation.proofs.laws.Buffers.{overwrite_part}
use Rattle.foundation.proofs.laws.Lists.{length_flat_map}

module _ (size : ℕ) (block : ℕ → List ℕ) where
  -- the blocks of the numbers before an index stand in front of the buffer
  pub record BlocksSo (numbers before buffer : List ℕ) (count at : ℕ) : Type 0 where
    pub reached : at ≤ length numbers
    pub counted : count ≡ size * at
    pub written : buffer ≡ overwrite (flat_map block (take at numbers)) before

  module _ (whole : (n : ℕ) → length (block n) ≡ size) where
    pub length_blocks : (numbers : List ℕ) → length (flat_map block numbers) ≡ size * length numbers
    length_blocks numbers = length_flat_map block size whole numbers ∙ mul_comm (length numbers) size

    one_more : (numbers : List ℕ) (n : ℕ) → flat_map block (numbers ++ (n ∷ [])) ≡ flat_map block numbers ++ block n
    unfolding flat_map
    one_more [] n = append-nil (block n)
    one_more (m ∷ numbers) n =
        ap (◌++◌ (block m)) (one_more numbers n) ∙ sym (append_assoc (block m) (flat_map block numbers) (block n))

    module _ {numbers before : List ℕ} where
      pub none_written : BlocksSo numbers before before 0 0
      unfolding flat_map
      none_written = record { reached = omega arith; counted = omega arith; written = refl }

      module _ {buffer : List ℕ} {count at : ℕ} (b : BlocksSo numbers before buffer count at) where
        abbrev so : List ℕ
        so = flat_map block (take at numbers)

        -- which are as long as was counted
        so_far : count ≡ length so
        so_far = b.counted ∙ sym (length_blocks (take at numbers) ∙ ap (◌*◌ size) (length-take-le at numbers b.reached))

        module _ (fits : size * length numbers ≤ length before) where
          -- the buffer is as long as it was
          pub same_room : length buffer ≡ length before
          same_room =
              omega (
                arith,
                so_far,
                b.counted,
                fits,
                mul-le-mul_left size b.reached,
                ap length b.written,
                length-append so (drop (length so) before),
                length-drop (length so) before,
              )

          module _ (inside : at < length numbers) where
            -- there is room for one block more
            pub next_fits : count + size ≤ length buffer
            next_fits =
                let within : at + 1 ≤ length numbers = omega (arith, inside) in
                omega (arith, same_room, b.counted, fits, mul-le-mul_left size within)

            pub next_whole : length (take (count + size - count) (drop count buffer)) ≡ size
            next_whole =
                let enough : count + size - count ≤ length (drop count buffer) = omega (arith, next_fits, length-drop count buffer) in
                length-take-le (count + size - count) (drop count buffer) enough ∙ omega arith

        -- which is put into the part behind them
        pub next_written : {put : List ℕ} → at < length numbers → put ≡ block (get_or numbers at 0)
            → BlocksSo numbers before (put_mid count (count + size - count) buffer put) (count + size) (at + 1)
        next_written {put} inside e =
            let more : so ++ block (get_or numbers at 0) ≡ flat_map block (take (at + 1) numbers) =
            sym (rw (add-one at, take-suc numbers at 0 inside) (one_more (take at numbers) (get_or numbers at 0))) in
            record {
              reached = omega (arith, inside);
              counted = omega (arith, b.counted);
              written =
                  ap (λ (l : List ℕ). put_mid count (count + size - count) l put) b.written
                  ∙ overwrite_part before so put count (count + size - count) so_far (omega (arith, ap length e, whole (get_or numbers at 0)))
                  ∙ ap (λ (last : List ℕ). overwrite (so ++ last) before) e
                  ∙ ap (λ (front : List ℕ). overwrite front before) more;
            }

        -- every block is written
        pub all_written : length numbers ≤ at → (count ≡ length (flat_map block numbers)) × (buffer ≡ overwrite (flat_map block numbers) before)
        all_written end =
            let all = take_all at numbers end in
            (rw all at so_far, rw all at b.written)
