-- Counting activities event by event: the counts so far and those of the events that are left make
-- up the tally of the trace. A trace has at most 254 events, so each count fits 8 bits.
-- Assumes nothing.
use Prim.Native.Nat.{ℕ, ◌+◌, ◌*◌, ◌≤◌, ◌<◌}
use native.Mathlib.Omega.{arith}
use mathlib.Core.Path.{◌≡◌, refl, ap, sym, ◌∙◌}
use mathlib.Core.Bool.{Bool, true, cond, and-eq-true_iff}
use mathlib.Core.List.{List, [], ◌∷◌, map}
use lib.Dec.{eqb}
use lib.ListN.{length, get_or, set, replicate}
use borrow.Author.Tests.{eqb-true, eqb-false, eq-eqb}
use Rattle.std.specs.List.{list_all}
use Rattle.std.proofs.lemmas.Grind.{same_number_lists}
use Rattle.std.proofs.lemmas.List.{get_or-set_same, get_or-set_other, get_or-replicate, length-replicate, length-set, length-map}
use Rattle.std.proofs.lemmas.List.Sums.{length-filter, count_by-le-length}
use Rattle.foundation.specs.Lists.{Each, up_to}
use Rattle.foundation.proofs.laws.Booleans.{by_test}
use Rattle.foundation.proofs.laws.Lists.{numbered_at}
use Rattle.foundation.proofs.laws.Each.{each_always, each_map, length_up_to}
use Rattle.limits.specs.Settings.{most_activities}
use Rattle.hex_digits.specs.Digits.{is_digit, digit_value}
use Rattle.hex_digits.proofs.laws.DigitLaws.{value_small}
use Rattle.event_log_spec.specs.Frames.{most_events}
use Rattle.variants_spec.specs.Variants.{occurrences, tally}
use Rattle.event_log_spec.specs.Lines.{codes_in}

-- 1 where a test holds
abbrev one : Bool → ℕ
one b = cond b 1 0

-- an activity in one event more
occurs_more : (code : ℕ) (trace : List ℕ) (a : ℕ) → occurrences (code ∷ trace) a ≡ one (eqb a code) + occurrences trace a
unfolding occurrences
occurs_more code trace a = by_test (eqb a code) (λ t. rw t (omega arith)) (λ f. rw f (omega arith))

-- no activity occurs more often than there are events, or codes than pairs of digits
pub occurs_few : (trace : List ℕ) (a : ℕ) → occurrences trace a ≤ length trace
unfolding occurrences
occurs_few trace a = rw (length-filter (eqb a) trace) (count_by-le-length (eqb a) trace)

codes_few : (digits : List ℕ) → 2 * length (codes_in digits) ≤ length digits
unfolding codes_in
codes_few [] = omega arith
codes_few (d ∷ []) = omega arith
codes_few (d ∷ (e ∷ digits)) = omega (arith, codes_few digits)

-- the counts of a trace are bytes
pub tally_bytes : (trace : List ℕ) → length trace ≤ most_events → Each (λ (n : ℕ). n < 256) (tally trace)
unfolding tally
tally_bytes trace short = each_map (occurrences trace) (each_always (λ a. omega (arith, occurs_few trace a, short)) (up_to most_activities))

pub tally_length : (trace : List ℕ) → length (tally trace) ≡ most_activities
unfolding tally
tally_length trace = length-map (up_to most_activities) (occurrences trace) ∙ length_up_to most_activities

-- the counts of the events before those whose digits are left
pub record Tallied (digits left counts : List ℕ) : Type 0 where
  pub sixteen : length counts ≡ most_activities
  pub known : list_all is_digit left ≡ true
  pub together : (a : ℕ) → a < most_activities → get_or counts a 0 + occurrences (codes_in left) a ≡ occurrences (codes_in digits) a

module _ (digits : List ℕ) where
  pub none_tallied : list_all is_digit digits ≡ true → Tallied digits digits (replicate most_activities 0)
  none_tallied known =
      record {
        sixteen = length-replicate {A = ℕ} most_activities 0;
        known = known;
        together = λ a less. omega (arith, get_or-replicate {A = ℕ} most_activities a 0 0 less);
      }

  module _ (counts : List ℕ) (d digit : ℕ) (left : List ℕ) (t : Tallied digits (d ∷ (digit ∷ left)) counts) where
    abbrev code : ℕ
    code = digit_value digit

    counted : (a : ℕ) → a < most_activities
        → get_or counts a 0 + (one (eqb a code) + occurrences (codes_in left) a) ≡ occurrences (codes_in digits) a
    unfolding codes_in
    counted a less = ap (◌+◌ (get_or counts a 0)) (sym (occurs_more code (codes_in left) a)) ∙ t.together a less

    -- the count of the event's activity has room for it
    pub one_fits : length digits ≤ 2 * most_events → get_or counts code 0 + 1 < 256
    one_fits short =
        omega (
          arith,
          counted code (value_small digit),
          ap one (eq-eqb code code refl),
          occurs_few (codes_in digits) code,
          codes_few digits,
          short,
        )

    pub one_tallied : Tallied digits left (set counts code (get_or counts code 0 + 1))
    one_tallied =
        record {
          sixteen = length-set counts code _ ∙ t.sixteen;
          known = ((and-eq-true_iff (is_digit digit) (list_all is_digit left)).0 ((and-eq-true_iff (is_digit d) (list_all is_digit (digit ∷ left))).0 t.known).1).1;
          together = λ a less.
              by_test
              (eqb a code)
              (λ same. let at : a ≡ code = eqb-true a code same in
              rw (at, get_or-set_same counts code (get_or counts code 0 + 1) 0 (omega (arith, value_small digit, t.sixteen)))
              (omega (arith, counted code (value_small digit), ap one (eq-eqb code code refl))))
              (λ other. rw (get_or-set_other counts code a (get_or counts code 0 + 1) 0 (eqb-false a code other))
              (omega (arith, counted a less, ap one other)));
        }

  -- where no two digits are left the counts are the tally
  pub all_tallied : (left counts : List ℕ) → length left < 2 → Tallied digits left counts → counts ≡ tally (codes_in digits)
  unfolding tally codes_in occurrences
  all_tallied left counts few t =
      same_number_lists
      counts
      (map (occurrences (codes_in digits)) (up_to most_activities))
      (t.sixteen ∙ sym (length-map (up_to most_activities) (occurrences (codes_in digits)) ∙ length_up_to most_activities))
      (λ k less. let within : k < most_activities = omega (arith, less, t.sixteen) in
      omega (arith, t.together k within, none left few k) ∙ sym (numbered_at (occurrences (codes_in digits)) most_activities k within))
    where
      none : (left : List ℕ) → length left < 2 → (a : ℕ) → occurrences (codes_in left) a ≡ 0
      none [] few a = refl
      none (d ∷ []) few a = refl
      none (d ∷ (e ∷ left)) few a = absurd (omega (arith, few))
