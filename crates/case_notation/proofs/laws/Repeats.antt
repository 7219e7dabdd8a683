-- A list that goes on as it begins, as copies of some bytes do: what covers a buffer so far can be
-- copied behind itself.
-- Assumes nothing.
use Rattle.std.proofs.Common.{ℕ, zero, suc, ◌+◌, ◌-◌, ◌*◌, ◌≤◌, ◌<◌, ◌≡◌, List, ◌++◌, min, length, take, drop, map, replicate, sym, ap, ◌∙◌, arith, append-nil}
use mathlib.Core.Path.{ap₂}
use Rattle.std.specs.List.{copy_within}
use Rattle.std.proofs.Math.Seq.{take_at, drop_at, take-take, take-add, drop-drop, paste}
use Rattle.std.proofs.lemmas.List.{map-append, append_assoc, length-append, length-map, take-append-le, drop-take}
use Rattle.std.proofs.lemmas.List.Edits.{take-paste}
use Rattle.case_notation.specs.Texts.{byte_meant, bytes_meant}

module _ {A : Type 0} where
  -- the front of the buffer has what the list begins with, and behind it the list goes on as it begins
  pub record Repeats (elements buffer : List A) (covered : ℕ) : Type 0 where
    pub begins : take covered buffer ≡ take covered elements
    pub goes_on : covered < length buffer → drop covered elements ≡ take (length elements - covered) elements

  -- as much again, or as much as there is room for
  pub doubled : {elements buffer after : List A} {covered more : ℕ} → Repeats elements buffer covered → covered < length buffer → length buffer ≤ length elements
      → more ≡ min covered (length buffer - covered) → after ≡ copy_within buffer 0 more covered → length after ≡ length buffer
      → Repeats elements after (covered + more)
  doubled {elements} {buffer} {after} {covered} {more} r room long e copied same =
      record {
        begins =
            ap (take (covered + more)) (copied ∙ ap (paste buffer covered buffer) (omega arith))
            ∙ take-paste buffer covered buffer more (omega arith) (omega arith)
            ∙ ap₂ (◌++◌) r.begins (front ∙ sym next)
            ∙ sym (take-add covered more elements);
        goes_on = λ h.
            let twice : more ≡ covered = omega arith in
            sym (drop-drop more covered elements)
            ∙ ap (drop more) on
            ∙ ap (λ (n : ℕ). drop more (take n elements)) (omega arith)
            ∙ drop-take more (length elements - (covered + more)) elements
            ∙ ap (λ (n : ℕ). take (length elements - (covered + more)) (drop n elements)) twice
            ∙ ap (take (length elements - (covered + more))) on
            ∙ take-take (length elements - (covered + more)) (length elements - covered) elements (omega arith);
      }
    where
      on : drop covered elements ≡ take (length elements - covered) elements
      on = r.goes_on room

      front : take more buffer ≡ take more elements
      front =
          sym (take-take more covered buffer (omega arith))
          ∙ ap (take more) r.begins
          ∙ take-take more covered elements (omega arith)

      next : take more (drop covered elements) ≡ take more elements
      next = ap (take more) on ∙ take-take more (length elements - covered) elements (omega arith)

-- copies of some bytes: a first and those after it, and those before a last and it
module _ (bytes : List ℕ) where
  pub copy_first : (times : ℕ) → bytes_meant (replicate (suc times) bytes) ≡ map byte_meant bytes ++ bytes_meant (replicate times bytes)
  copy_first times = map-append byte_meant bytes _

  copy_last : (times : ℕ) → bytes_meant (replicate (suc times) bytes) ≡ bytes_meant (replicate times bytes) ++ map byte_meant bytes
  copy_last zero = copy_first 0 ∙ append-nil (map byte_meant bytes)
  copy_last (suc times) =
      copy_first (suc times)
      ∙ ap (◌++◌ (map byte_meant bytes)) (copy_last times)
      ∙ sym (append_assoc (map byte_meant bytes) (bytes_meant (replicate times bytes)) (map byte_meant bytes))
      ∙ ap (λ (l : List ℕ). l ++ map byte_meant bytes) (sym (copy_first times))

  pub length-copies : (times : ℕ) → length (bytes_meant (replicate times bytes)) ≡ times * length bytes
  length-copies zero = omega arith
  length-copies (suc times) =
      ap length (copy_first times)
      ∙ omega (arith, length-append (map byte_meant bytes) (bytes_meant (replicate times bytes)), length-map bytes byte_meant, length-copies times)

  -- a copy after the first is the first
  pub copies_go_on : (times : ℕ) → drop (length bytes) (bytes_meant (replicate (suc times) bytes))
      ≡ take (length (bytes_meant (replicate (suc times) bytes)) - length bytes) (bytes_meant (replicate (suc times) bytes))
  copies_go_on times =
      ap (drop (length bytes)) (copy_first times)
      ∙ drop_at (map byte_meant bytes) (bytes_meant (replicate times bytes)) (length bytes) (length-map bytes byte_meant)
      ∙ sym (take_at (bytes_meant (replicate times bytes)) (map byte_meant bytes) _ (omega (arith, length-copies times, length-copies (suc times))))
      ∙ sym (ap (take (length (bytes_meant (replicate (suc times) bytes)) - length bytes)) (copy_last times))

-- the first copy, as much of it as there is room for
pub first_copy : (times : ℕ) (bytes after : List ℕ) (covered : ℕ) → length after ≤ times * length bytes → covered ≡ min (length bytes) (length after)
    → take covered after ≡ take covered (map byte_meant bytes) → Repeats (bytes_meant (replicate times bytes)) after covered
first_copy zero bytes after covered long e front =
    let none : covered ≡ 0 = omega arith in
    record { begins = ap (λ (n : ℕ). take n after) none ∙ sym (ap (λ (n : ℕ). take n (bytes_meant (replicate zero bytes))) none); goes_on = λ h. absurd (omega arith) }
first_copy (suc times) bytes after covered long e front =
    record {
      begins =
          front
          ∙ sym (take-append-le covered (map byte_meant bytes) (bytes_meant (replicate times bytes)) (omega (arith, length-map bytes byte_meant)))
          ∙ sym (ap (take covered) (copy_first bytes times));
      goes_on = λ h.
          let whole : covered ≡ length bytes = omega arith in
          rw whole (copies_go_on bytes times);
    }
