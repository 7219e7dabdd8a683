-- What a buffer holds once a line was put into it part by part: the digits of its numbers, each
-- behind those before it, and a line feed.
-- Assumes nothing.
use Prim.Native.Nat.{ℕ, ◌+◌, ◌-◌, ◌≤◌, ◌<◌}
use native.Mathlib.Numerals.{add-one}
use native.Mathlib.Omega.{arith}
use mathlib.Core.Path.{◌≡◌, refl, sym, ap, ◌∙◌}
use mathlib.Core.List.{List, [], ◌∷◌, ◌++◌, append-nil, append_assoc}
use borrow.Rule.Slice.PartMut.{put_mid}
use lib.ListN.{length, get_or, take, drop, set, length-append, length-drop}
use lib.Seq.{length-take-le, take-suc, take_all, take-length, drop-length, take-append_seam, drop-append_seam, drop_at, drop-drop}
use Rattle.std.specs.List.{flat_map}
use Rattle.std.proofs.lemmas.List.Concat.{flat_map-append}
use Rattle.std.proofs.lemmas.List.Folds.{length-flat_map-take}
use Rattle.foundation.specs.Buffers.{overwrite}
use Rattle.foundation.proofs.laws.Buffers.{overwrite_more, overwrite_part}
use Rattle.hex_digits.specs.Digits.{write_hex, line_feed}
use Rattle.hex_digits.proofs.laws.DigitLaws.{length_write}
use Rattle.report_lines.specs.ProgramLines.{field_text, fields_line}

-- the numbers before an index stand in front of the buffer
pub record FieldsSo (fields : List (ℕ × ℕ)) (before text : List ℕ) (at index : ℕ) : Type 0 where
  pub counted : at ≡ length (flat_map field_text (take index fields))
  pub written : text ≡ overwrite (flat_map field_text (take index fields)) before

-- what has room leaves a buffer as long as it was
pub overwrite_length : (buffer words : List ℕ) → length words ≤ length buffer → length (overwrite words buffer) ≡ length buffer
overwrite_length buffer words h = omega (arith, length-append words (drop (length words) buffer), length-drop (length words) buffer)

pub length_fields : (fields : List (ℕ × ℕ)) → length (fields_line fields) ≡ length (flat_map field_text fields) + 1
unfolding fields_line
length_fields fields = length-append (flat_map field_text fields) (line_feed ∷ [])

module _ {fields : List (ℕ × ℕ)} {before : List ℕ} where
  pub none_put : FieldsSo fields before before 0 0
  none_put = record { counted = refl; written = refl }

  module _ {text : List ℕ} {at index : ℕ} (f : FieldsSo fields before text at index) (room : length (fields_line fields) ≤ length before) where
    abbrev front : List ℕ
    front = flat_map field_text (take index fields)

    -- there is room for one number more
    pub next_fits : index < length fields → at + (get_or fields index (0, 0)).1 < length before
    next_fits inside =
        let field = get_or fields index (0, 0) in
        omega (
          arith,
          room,
          f.counted,
          length_fields fields,
          length-flat_map-take field_text fields index (0, 0) inside,
          length_write field.1 field.0,
        )

    -- which is put behind them
    pub next_put : {digits : List ℕ} → index < length fields
        → digits ≡ write_hex (length (take (at + (get_or fields index (0, 0)).1 - at) (drop at text))) (get_or fields index (0, 0)).0
        → FieldsSo fields before (put_mid at (at + (get_or fields index (0, 0)).1 - at) text digits) (at + (get_or fields index (0, 0)).1) (index + 1)
    next_put {digits} inside e =
        let field = get_or fields index (0, 0) in
        let n = at + field.1 - at in
        let rest = drop (length front) before in
        let long : length (take n rest) ≡ field.1 =
        length-take-le n rest (omega (arith, next_fits inside, f.counted, length-drop (length front) before)) ∙ omega arith in
        let made : digits ≡ field_text field = rw (f.written, drop_at front rest at (sym f.counted), long) at e in
        let more : front ++ field_text field ≡ flat_map field_text (take (index + 1) fields) =
        sym (rw (add-one index, take-suc fields index (0, 0) inside) (flat_map-append field_text (take index fields) (field ∷ []) ∙ ap (◌++◌ front) (append-nil (field_text field)))) in
        record {
          counted = omega (arith, f.counted, ap length more, length-append front (field_text field), length_write field.1 field.0);
          written =
              rw (f.written, made) (overwrite_part before front (field_text field) at n f.counted (omega (arith, length_write field.1 field.0)))
              ∙ ap (λ (line : List ℕ). overwrite line before) more;
        }

    -- behind all of them there is room for a line feed
    pub end_fits : length fields ≤ index → at + 1 ≡ length (fields_line fields)
    end_fits end =
        omega (arith, f.counted, ap (λ (l : List (ℕ × ℕ)). length (flat_map field_text l)) (take_all index fields end), length_fields fields)

    -- which ends the line
    pub line_put : length fields ≤ index → set text at line_feed ≡ overwrite (fields_line fields) before
    unfolding fields_line
    line_put end =
        let all = take_all index fields end in
        let so : at ≡ length (flat_map field_text fields) = rw all at f.counted in
        let long = overwrite_length before (flat_map field_text fields) (omega (arith, room, length_fields fields)) in
        rw (f.written, all, so) (overwrite_more before (flat_map field_text fields) line_feed (omega (arith, room, length_fields fields, long)))

-- a line written from the front of what lies behind other text
pub rest_put : (buffer front line : List ℕ) {text ys : List ℕ} {at : ℕ} → text ≡ overwrite front buffer → at ≡ length front
    → ys ≡ overwrite line (take (length text - at) (drop at text)) → put_mid at (length text - at) text ys ≡ overwrite (front ++ line) buffer
rest_put buffer front line {text} {ys} {at} so e d =
    let rest = drop (length front) buffer in
    let behind : drop at text ≡ rest = rw (so, e) (drop-append_seam front rest) in
    let room : length text - at ≡ length rest = rw (so, e) (omega (arith, length-append front rest)) in
    let before : take at text ≡ front = rw (so, e) (take-append_seam front rest) in
    rw (
      d,
      room,
      behind,
      before,
      take-length rest,
      drop-length rest,
      append-nil,
      length-append front line,
      ← drop-drop (length line) (length front) buffer,
    ) (sym (append_assoc front line (drop (length line) rest)))
