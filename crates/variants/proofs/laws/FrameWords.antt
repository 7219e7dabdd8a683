-- Bytes as a number: what the machine reads from them, the lowest first; its bytes above the first
-- two are the number without its last 16 bits. And two numbers of equally many bytes are equal only
-- where the bytes are.
-- Assumes nothing.
use Prim.Native.Nat.{ℕ, zero, suc, ◌+◌, ◌*◌, ◌/◌, ◌^◌, ◌≤◌, ◌<◌}
use native.Mathlib.Omega.{arith}
use native.Mathlib.Nat.{pow-succ'}
use mathlib.Core.Path.{◌≡◌, refl, ap, ap₂, sym, ◌∙◌}
use mathlib.Core.List.{List, [], ◌∷◌, ◌++◌}
use mir.Syntax.{w128}
use lib.ListN.{length, take, drop, get_or}
use lib.Seq.{take-suc, take-length, length-take-le}
use Rattle.std.specs.Int.{from_le_bytes, sum_through, byte_worth}
use Rattle.std.specs.List.{slice_index}
use Rattle.foundation.specs.Lists.{Each, each_nil, each_cons}
use Rattle.variants.specs.Words.{number_of, line_room, frame_word}

-- a byte above others
number_more : (bytes : List ℕ) (b : ℕ) → number_of (bytes ++ (b ∷ [])) ≡ number_of bytes + b * 256 ^ length bytes
number_more [] b = omega arith
number_more (byte ∷ bytes) b =
    omega (arith, number_more bytes b, ap (◌*◌ b) (pow-succ' 256 (length bytes)))

-- what the machine reads from sixteen bytes
module _ (bytes : List ℕ) where
  read_through : (k : ℕ) → k < length bytes → sum_through (λ i. byte_worth i (slice_index bytes i)) k ≡ number_of (take (suc k) bytes)
  read_through zero less = sym (ap number_of (take-suc bytes 0 0 less) ∙ omega arith)
  read_through (suc k) less =
      ap (λ (n : ℕ). n + slice_index bytes (suc k) * 256 ^ suc k) (read_through k (omega arith))
      ∙ ap (λ (n : ℕ). number_of (take (suc k) bytes) + slice_index bytes (suc k) * 256 ^ n) (sym (length-take-le (suc k) bytes (omega arith)))
      ∙ sym (number_more (take (suc k) bytes) (slice_index bytes (suc k)))
      ∙ sym (ap number_of (take-suc bytes (suc k) 0 less))

  pub number_read : length bytes ≡ 16 → from_le_bytes w128 bytes ≡ number_of bytes
  number_read sixteen = read_through 15 (omega arith) ∙ ap number_of (ap (λ (n : ℕ). take n bytes) (sym sixteen) ∙ take-length bytes)

-- all but the first two
pub upper_bytes : (bytes : List ℕ) → 2 ≤ length bytes → ((i : ℕ) → get_or bytes i 0 < 256) → number_of bytes / line_room ≡ number_of (drop 2 bytes)
upper_bytes [] some small = absurd (omega arith)
upper_bytes (a ∷ []) some small = absurd (omega arith)
upper_bytes (a ∷ (b ∷ bytes)) some small = omega (arith, small 0, small 1)

-- the word of a frame, as the machine computes it
pub word_computed : (counts : List ℕ) (line : ℕ) → length counts ≡ 16 → ((i : ℕ) → get_or counts i 0 < 256)
    → from_le_bytes w128 counts / line_room * line_room + line ≡ frame_word counts line
unfolding frame_word
word_computed counts line sixteen small =
    ap (λ (n : ℕ). n * line_room + line) (ap (λ (n : ℕ). n / line_room) (number_read counts sixteen) ∙ upper_bytes counts (omega arith) small)

-- a number of bytes is small
pub number_small : {bytes : List ℕ} → Each (λ (b : ℕ). b < 256) bytes → number_of bytes < 256 ^ length bytes
number_small each_nil = omega arith
number_small (each_cons {xs = bytes} here later) = omega (arith, here, number_small later, pow-succ' 256 (length bytes))

-- equal numbers of equally many bytes
pub number_once : {xs ys : List ℕ} → Each (λ (b : ℕ). b < 256) xs → Each (λ (b : ℕ). b < 256) ys → length xs ≡ length ys
    → number_of xs ≡ number_of ys → xs ≡ ys
number_once each_nil each_nil same e = refl
number_once each_nil (each_cons here later) same e = absurd (omega (arith, same))
number_once (each_cons here later) each_nil same e = absurd (omega (arith, same))
number_once (each_cons here later) (each_cons here' later') same e =
    ap₂ ◌∷◌ (omega (arith, here, here', e)) (number_once later later' (omega (arith, same)) (omega (arith, here, here', e)))
