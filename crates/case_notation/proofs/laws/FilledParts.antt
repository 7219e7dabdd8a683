-- A buffer filled part by part: each part goes into what the parts before it have left of the
-- buffer.
-- Assumes nothing.
use Rattle.std.proofs.Common.{ℕ, ◌+◌, ◌-◌, ◌≤◌, ◌<◌, ◌≡◌, Option, Some, None, List, ◌++◌, min, leb, length, take, drop, sym, ap, ◌∙◌, subst, arith, append-nil}
use mathlib.Core.Path.{ap₂}
use borrow.Author.Tests.{le-leb, lt-leb, leb-true, leb-false}
use borrow.Rule.Slice.PartMut.{mid_of, put_mid}
use Rattle.std.specs.Bool.{then_some}
use Rattle.std.specs.Option.{unwrap_or}
use Rattle.std.proofs.Math.ListN.{drop_of_length-le}
use Rattle.std.proofs.Math.Seq.{take_all, take_at, take-take, drop_at, drop-drop, take-append-add}
use Rattle.std.proofs.lemmas.List.{append_assoc, length-append, length-drop, length-take, take_rest, take-append-le}
use Rattle.std.proofs.lemmas.Option.{cond_some}
use Rattle.foundation.proofs.laws.Booleans.{by_test}
use Rattle.case_notation.specs.Filling.{Filled}

module _ {A : Type 0} where
  -- what an answer says of the room
  record Fits (before elements after : List A) (count : ℕ) : Type 0 where
    as_many : length elements ≡ count
    room : count ≤ length before
    stored : after ≡ elements ++ drop count before

  fits : {before elements after : List A} {count : ℕ} → Filled before elements after (Some count) → Fits before elements after count
  fits {before} {elements} f =
      let told = cond_some (leb (length elements) (length before)) _ _ (sym f.counted) in
      let room : length elements ≤ length before = leb-true _ _ told.0 in
      record {
        as_many = told.1;
        room = omega (arith, told.1, room);
        stored = f.stored ∙ ap₂ (λ (front : List A) (m : ℕ). front ++ drop m before) (take_all (length before) elements room) told.1;
      }

  pub same_elements : {before elements others after : List A} {answer : Option ℕ} → elements ≡ others → Filled before elements after answer
      → Filled before others after answer
  same_elements {before} {after = after} {answer = answer} e f = subst (λ (list : List A). Filled before list after answer) e f

  too_long : {before elements after : List A} → Filled before elements after None → length before < length elements
  too_long {before} {elements} f =
      by_test (leb (length elements) (length before))
      (λ t. let fitting = rw t at f.counted in cc)
      (λ e. leb-false _ _ e)

  -- a buffer that is full with the first elements is full with more
  full : {before elements after : List A} (more : List A) → Filled before elements after None → Filled before (elements ++ more) after None
  full {before} {elements} {after} more f =
      let long : length before < length elements = too_long f in
      let longer : length before < length (elements ++ more) = omega (arith, length-append elements more) in
      record {
        stored =
            f.stored
            ∙ ap₂ (◌++◌)
            (sym (take-append-le (length before) elements more (omega arith)))
            (drop_of_length-le before (omega arith) ∙ sym (drop_of_length-le before (omega arith)));
        counted = rw (lt-leb (length (elements ++ more)) (length before) longer);
      }

  -- the part behind the first elements, as it was and as it is put back
  module _ {before elements buffer : List A} {count : ℕ} (f : Fits before elements buffer count) where
    part_before : mid_of count (length buffer - count) buffer ≡ drop count before
    part_before = take_rest buffer count ∙ ap (drop count) f.stored ∙ drop_at elements (drop count before) count f.as_many

    put_back : (rest : List A) → put_mid count (length buffer - count) buffer rest ≡ elements ++ rest
    put_back rest =
        let none_behind = drop_of_length-le (drop count buffer) (omega (arith, length-drop count buffer)) in
        ap₂ (λ (front back : List A). front ++ (rest ++ back))
        (ap (take count) f.stored ∙ take_at elements (drop count before) count f.as_many)
        none_behind
        ∙ ap (◌++◌ elements) (append-nil rest)

    behind : (more : List A) {rest : List A} → rest ≡ take (length (drop count before)) more ++ drop (length more) (drop count before)
        → elements ++ rest ≡ take (length before) (elements ++ more) ++ drop (length (elements ++ more)) before
    behind more {rest} e =
        let r = length-drop count before in
        ap (◌++◌ elements) e
        ∙ sym (append_assoc elements _ _)
        ∙ ap₂ (◌++◌)
        (sym (take-append-add elements more (length (drop count before))) ∙ ap (λ (n : ℕ). take n (elements ++ more)) (omega (arith, r, f.as_many, f.room)))
        (drop-drop (length more) count before ∙ ap (λ (n : ℕ). drop n before) (omega (arith, length-append elements more, f.as_many)))

  -- the first elements fill the front of the buffer, and these are left of all
  pub record FilledSoFar (before all left buffer : List A) (count : ℕ) : Type 0 where
    pub done : List A
    pub parted : done ++ left ≡ all
    pub filled : Filled before done buffer (Some count)

  module _ {before all left buffer : List A} {count : ℕ} (f : FilledSoFar before all left buffer count) where
    -- the whole buffer is behind the elements so far
    so_far : Fits before f.done buffer count
    so_far = fits f.filled

    module _ (part more : List A) (next : left ≡ part ++ more) where
      joined : (f.done ++ part) ++ more ≡ all
      joined = append_assoc f.done part more ∙ ap (◌++◌ f.done) (sym next) ∙ f.parted

      -- a part that has room goes behind them
      pub one_part : {rest : List A} {n : ℕ} → Filled (mid_of count (length buffer - count) buffer) part rest (Some n)
          → FilledSoFar before all more (put_mid count (length buffer - count) buffer rest) (count + n)
      one_part {rest} {n} p =
          let q = subst (λ (b : List A). Filled b part rest (Some n)) (part_before so_far) p in
          let g = fits q in
          let as_many : length (f.done ++ part) ≡ count + n = omega (arith, length-append f.done part, so_far.as_many, g.as_many) in
          let room : count + n ≤ length before = omega (arith, length-drop count before, so_far.room, g.room) in
          record {
            done = f.done ++ part;
            parted = joined;
            filled =
                record {
                  stored = put_back so_far rest ∙ behind so_far part q.stored;
                  counted = rw (as_many, le-leb (count + n) (length before) room);
                };
          }

      -- and one that has none leaves the buffer full
      pub part_full : {rest : List A} → Filled (mid_of count (length buffer - count) buffer) part rest None
          → Filled before all (put_mid count (length buffer - count) buffer rest) None
      part_full {rest} p =
          let q = subst (λ (b : List A). Filled b part rest None) (part_before so_far) p in
          let long = too_long q in
          let longer : length before < length (f.done ++ part) = omega (arith, length-append f.done part, length-drop count before, so_far.as_many, so_far.room) in
          subst
          (λ (elements : List A). Filled before elements (put_mid count (length buffer - count) buffer rest) None)
          joined
          (full more
          (record {
            stored = put_back so_far rest ∙ behind so_far part q.stored;
            counted = rw (lt-leb (length (f.done ++ part)) (length before) longer);
          }))

  -- what an answer counts, or else the whole buffer, and what stands there
  module _ {before elements after : List A} {answer : Option ℕ} (f : Filled before elements after answer) where
    pub filled_count : length after ≡ length before → unwrap_or answer (length after) ≡ min (length elements) (length before)
    filled_count same =
        by_test (leb (length elements) (length before))
        (λ t. rw (f.counted, t) (omega (arith, leb-true _ _ t)))
        (λ e. rw (f.counted, e) (omega (arith, same, leb-false _ _ e)))

    pub filled_front : (n : ℕ) → n ≤ length elements → n ≤ length before → take n after ≡ take n elements
    filled_front n within room =
        ap (take n) f.stored
        ∙ take-append-le n (take (length before) elements) (drop (length elements) before) (omega (arith, length-take (length before) elements))
        ∙ take-take n (length before) elements room

  -- as many elements as there is room for, in front of what was there, where those and the room are
  -- counted up to a bound
  module _ {before front : List A} (elements : List A) {room count : ℕ} (bound : ℕ) {answer : Option ℕ} (bounded : length before < bound) (counted : count ≡ min (length elements) bound) where
    pub in_room : room ≡ min count (length before) → front ≡ take room elements
        → answer ≡ then_some (leb count (length (front ++ drop room before))) count → Filled before elements (front ++ drop room before) answer
    in_room e begins told =
        by_test (leb (length elements) (length before))
        (λ t.
        let fits = leb-true (length elements) (length before) t in
        record {
          stored =
              ap₂ (λ (l : List A) (n : ℕ). l ++ drop n before)
              (begins ∙ take_all room elements (omega arith) ∙ sym (take_all (length before) elements fits))
              (omega arith);
          counted = rw (told, same, le-leb count (length before) (omega arith), t) (ap Some (omega arith));
        })
        (λ u.
        let more = leb-false (length elements) (length before) u in
        record {
          stored =
              ap₂ (◌++◌)
              (begins ∙ ap (λ (n : ℕ). take n elements) (omega arith))
              (drop_of_length-le before (omega arith) ∙ sym (drop_of_length-le before (omega arith)));
          counted = rw (told, same, lt-leb count (length before) (omega arith), u);
        })
      where
        same : length (front ++ drop room before) ≡ length before
        same = omega (arith, length-append front (drop room before), length-drop room before, ap length begins, length-take room elements)
