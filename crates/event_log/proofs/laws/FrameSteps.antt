-- Stepping through the frames of a log: where a trace ends, byte by byte, and that of a text that
-- goes on with a frame the count and the end at an index are the frame's own.
-- Assumes nothing.
use Rattle.std.specs.Prelude.{Option, None, Some, MatchOption}
use Rattle.std.specs.Iterator.Runs.{Run, ItemsMapTo, IsStepByRun, IsTakeWhileRun, CallKeepsClosure}
use Rattle.std.specs.Fn.{CalledAt}
use Rattle.std.proofs.lemmas.Option.{none-some}
use Rattle.std.proofs.lemmas.List.{get_or_past}
use denote.Ref.{Bor}
use denote.Param.Members.{Mut}
use Prim.Native.Nat.{ℕ, zero, suc, ◌+◌, ◌*◌, ◌/◌, ◌%◌, ◌^◌, ◌≤◌, ◌<◌}
use native.Mathlib.Omega.{arith}
use mathlib.Core.Path.{◌≡◌, refl, sym, ◌∙◌}
use mathlib.Core.Bool.{Bool, true, false, not}
use mathlib.Core.List.{List, [], ◌∷◌, ◌++◌, flat_map}
use borrow.Author.Tests.{le-leb, eqb-true, eqb-false, ne_eqb, ltb-true, ltb-false, not-true, not-false}
use lib.Dec.{eqb, ltb}
use lib.ListN.{length, drop, get_or, length-append}
use lib.Seq.{take_at}
use Rattle.foundation.proofs.laws.Booleans.{by_test}
use Rattle.foundation.proofs.laws.Each.{each_all}
use Rattle.hex_digits.specs.Digits.{is_digit, write_hex, line_feed}
use Rattle.event_log_spec.specs.Frames.{count_digits}
use Rattle.log_lines.specs.Reading.{count_in}
use Rattle.event_log.specs.Stepping.{pairs_length, trace_end}
use Rattle.hex_digits.proofs.laws.DigitLaws.{byte_is_digit, read_write, write_digits, length_write}
use Rattle.event_log_spec.proofs.laws.TextLines.{digit_no_feed}

-- where the text goes on with the digits of a case count, that is the count
pub count_written : (text : List ℕ) (from n : ℕ) (rest : List ℕ) → drop from text ≡ write_hex count_digits n ++ rest → 1 ≤ n → n < 16 ^ count_digits
    → count_in (drop from text) ≡ Some n
unfolding count_in
count_written text from n rest e some small =
    let digits = write_hex count_digits n in
    let measured = length_write count_digits n in
    let long : count_digits ≤ length (digits ++ rest) = omega (arith, length-append digits rest, measured) in
    rw (
      e,
      take_at digits rest count_digits measured,
      le-leb count_digits (length (digits ++ rest)) long,
      each_all is_digit (write_digits count_digits n),
      read_write count_digits n small,
      ne_eqb n 0 (λ z. omega arith),
    )

-- a pair that begins with a line feed ends the trace, and any other is stepped over
pairs_end : (bytes : List ℕ) → pairs_length (line_feed ∷ bytes) ≡ 0
unfolding pairs_length
pairs_end [] = refl
pairs_end (e ∷ bytes) = refl

pairs_step : (d : ℕ) (bytes : List ℕ) → (d ≡ line_feed → ⊥) → pairs_length (d ∷ bytes) ≡ 2 + pairs_length (drop 1 bytes)
unfolding pairs_length
pairs_step d [] other = rw (ne_eqb d line_feed other)
pairs_step d (e ∷ bytes) other = rw (ne_eqb d line_feed other)

-- n pairs begin with no line feed, and no other pair follows but one that does
record PairsBefore (bytes : List ℕ) (n : ℕ) : Type 0 where
  before : (k : ℕ) → k < n → (k * 2 < length bytes) × (get_or bytes (k * 2) 0 ≡ line_feed → ⊥)
  after : n * 2 < length bytes → get_or bytes (n * 2) 0 ≡ line_feed

next_pair : (k : ℕ) → suc k * 2 ≡ suc (suc (k * 2))
next_pair k = omega arith

-- so they are the pairs of the trace
pairs_counted : (bytes : List ℕ) (n : ℕ) → PairsBefore bytes n → pairs_length bytes ≡ n * 2
unfolding pairs_length
pairs_counted [] zero b = refl
pairs_counted [] (suc n) b = absurd (omega (arith, (b.before 0 (omega arith)).0))
pairs_counted (d ∷ []) zero b = rw (b.after (omega arith))
pairs_counted (d ∷ []) (suc zero) b = rw (ne_eqb d line_feed (b.before 0 (omega arith)).1)
pairs_counted (d ∷ []) (suc (suc n)) b = absurd (omega (arith, (b.before 1 (omega arith)).0))
pairs_counted (d ∷ (e ∷ bytes)) zero b = rw (b.after (omega arith))
pairs_counted (d ∷ (e ∷ bytes)) (suc n) b =
    let later : PairsBefore bytes n
    = record {
      before =
          λ k less. let here = rw (next_pair k) at (b.before (suc k) (omega arith)) in (omega (arith, here.0), here.1);
      after = λ less. let here = rw (next_pair n) at b.after in here (omega arith);
    } in
    rw (ne_eqb d line_feed (b.before 0 (omega arith)).1) (omega (arith, pairs_counted bytes n later))

-- a chain over the first byte of each pair that stops at a line feed counts these pairs
module _ {S T U F : Type 0} {byte_by : S → Option (Bor ℕ) → S → Type 0} {first_by : T → Option (Bor ℕ) → T → Type 0}
    {taken_by : U → Option (Bor ℕ) → U → Type 0}
    (q : Run byte_by) (p : Run first_by) (u : Run taken_by) (g : Mut F (Bor (Bor ℕ) × Unit {0}) Bool) (f : F)
    (bytes : List ℕ) (items : ItemsMapTo q (λ (x : Bor ℕ). x.now) bytes) (firsts : IsStepByRun p q 2) (taken : IsTakeWhileRun u p g f)
    (whole : u.whole ≡ true)
    (tests : (x : Bor ℕ) (b : Bool) (f' : F) → CalledAt g f x b f' → (f' ≡ f) × (b ≡ not (eqb x.now line_feed))) where
  keeps : CallKeepsClosure g f
  keeps a b f' called = (tests a.0.now b f' (record { shown = a.0; shows = refl; called = called })).0

  -- what the chain comes to is the first byte of a pair
  first_byte : (k : ℕ) (x : Bor ℕ) → q.at (k * 2) ≡ Some x → (k * 2 < length bytes) × (x.now ≡ get_or bytes (k * 2) 0)
  first_byte k x e =
      let held : (d : ℕ) → x.now ≡ get_or bytes (k * 2) d = rw e at (items.3 (k * 2)) in
      by_test
      (ltb (k * 2) (length bytes))
      (λ t. (ltb-true (k * 2) (length bytes) t, held 0))
      (λ past.
      let beyond = ltb-false (k * 2) (length bytes) past in
      absurd (omega (arith, held 0, held 1, get_or_past bytes (k * 2) 0 beyond, get_or_past bytes (k * 2) 1 beyond)))

  before : (k : ℕ) → k < u.len → (k * 2 < length bytes) × (get_or bytes (k * 2) 0 ≡ line_feed → ⊥)
  before k less = go (q.at (k * 2)) refl
    where
      go : (o : Option (Bor ℕ)) → q.at (k * 2) ≡ o → (k * 2 < length bytes) × (get_or bytes (k * 2) 0 ≡ line_feed → ⊥)
      go None e =
          let inside : k * 2 < q.len = omega (arith, taken.0, firsts.3) in
          absurd (none-some _ (rw e at (items.2 (k * 2) 0 inside)))
      go (Some x) e =
          let here = first_byte k x e in
          let called = rw (sym (taken.1 k less) ∙ firsts.4 k ∙ e) at ((taken.2 keeps).0 k) in
          let other = eqb-false x.now line_feed (not-true (eqb x.now line_feed) (sym (tests x true f called).1)) in
          (here.0, λ feed. other (here.1 ∙ feed))

  after : u.len * 2 < length bytes → get_or bytes (u.len * 2) 0 ≡ line_feed
  after less = go (p.at u.len) refl ((taken.2 keeps).1 whole)
    where
      go : (o : Option (Bor ℕ)) → p.at u.len ≡ o
          → MatchOption o ((p.whole ≡ true) × (p.len ≡ u.len)) (λ x. (f' : F) × CalledAt g f x false f')
          → get_or bytes (u.len * 2) 0 ≡ line_feed
      go None e over = absurd (omega (arith, over.1, firsts.2, items.1 (firsts.0 ∙ over.0)))
      go (Some x) e ended =
          let feed = eqb-true x.now line_feed (not-false (eqb x.now line_feed) (sym (tests x false ended.0 ended.1).1)) in
          sym (first_byte u.len x (sym (firsts.4 u.len) ∙ e)).1 ∙ feed

  pub pairs_taken : pairs_length bytes ≡ u.len * 2
  pairs_taken = pairs_counted bytes u.len (record { before = before; after = after })

pairs_written : (trace rest : List ℕ) → pairs_length (flat_map (write_hex 2) trace ++ (line_feed ∷ rest)) ≡ 2 * length trace
unfolding flat_map write_hex
pairs_written [] rest = pairs_end rest
pairs_written (a ∷ trace) rest =
    rw (pairs_step _ _ (digit_no_feed _ (byte_is_digit (a / 16 % 16) (omega arith)))) (omega (arith, pairs_written trace rest))

-- where the text goes on with the digits of a trace and a line feed, the trace ends at the line feed
pub end_written : (text : List ℕ) (from : ℕ) (trace rest : List ℕ)
    → drop from text ≡ flat_map (write_hex 2) trace ++ (line_feed ∷ rest)
    → trace_end text from ≡ from + 2 * length trace
unfolding trace_end
end_written text from trace rest e = rw (e, pairs_written trace rest)
