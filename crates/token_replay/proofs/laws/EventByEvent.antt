-- Replaying a trace event by event gives its last balance and its least balance. After k events the
-- balance is that of the first k events, and the least is that of the balances at them: one more
-- event adds its set bits to the two counts, and its balance to the list of balances.
-- Assumes nothing.
use Prim.Native.Nat.{ℕ, zero, suc, ◌+◌, ◌≤◌, ◌<◌}
use native.Mathlib.Omega.{arith}
use mathlib.Core.Path.{◌≡◌, refl, ap, sym, ◌∙◌}
use mathlib.Core.Bool.{true}
use mathlib.Core.List.{List, [], ◌∷◌, ◌++◌, map}
use lib.IntN.{ℤ, pos, sub_ℕ, ◌+ℤ◌, ◌-ℤ◌}
use lib.Signed.{le_z}
use lib.ListN.{length, take, get_or}
use lib.Seq.{take-suc, take-length}
use Rattle.foundation.specs.Lists.{up_to}
use Rattle.std.specs.List.{fold}
use Rattle.foundation.proofs.laws.Booleans.{by_test}
use Rattle.foundation.proofs.laws.Each.{length_up_to}
use Rattle.foundation.proofs.laws.Sums.{sum_append}
use Rattle.foundation.proofs.laws.Integers.{le_z_trans, le_z_antisymm, le_z_total, difference_le}
use Rattle.foundation.proofs.laws.Differences.{difference_add, difference_sub}
use Rattle.places.specs.declared.Place.{Place}
use Rattle.places.specs.Sets.{has}
use Rattle.token_replay.specs.declared.Tokens.{Tokens}
use Rattle.replay_spec.specs.Balance.{count, balance_at, smaller, least_of, least_balance, last_balance}
use Rattle.token_replay.specs.Tokens.{after_event, after_trace}

-- before the first event
abbrev pub no_tokens : Tokens
no_tokens = record { balance = pos 0; least = pos 0 }

-- the second of two numbers, where it is at most the first
smaller_second : (a b : ℤ) → le_z b a ≡ true → smaller a b ≡ b
smaller_second a b h = by_test (le_z a b) (λ t. rw t (le_z_antisymm a b t h)) (λ f. rw f)

smaller_assoc : (a b c : ℤ) → smaller a (smaller b c) ≡ smaller (smaller a b) c
smaller_assoc a b c =
    by_test
    (le_z a b)
    (λ t. by_test (le_z b c) (λ u. simp (t, u, le_z_trans a b c t u)) (λ g. simp (t, g)))
    (λ f.
    by_test
    (le_z b c)
    (λ u. simp (f, u))
    (λ g. simp (f, g) (smaller_second a c (le_z_trans c b a (le_z_total b c g) (le_z_total a b f)))))

-- the least of some numbers and one more
least_last : {A : Type 0} (f : A → ℤ) (xs : List A) (x : A) → 1 ≤ length xs
    → least_of (map f (xs ++ (x ∷ []))) ≡ smaller (least_of (map f xs)) (f x)
unfolding least_of
least_last f [] x some = absurd (omega arith)
least_last f (y ∷ []) x some = refl
least_last f (y ∷ (z ∷ zs)) x some =
    ap (smaller (f y)) (least_last f (z ∷ zs) x (omega arith)) ∙ smaller_assoc (f y) (least_of (map f (z ∷ zs))) (f x)

fold_last : {S A : Type 0} (f : S → A → S) (s : S) (xs : List A) (x : A) → fold f s (xs ++ (x ∷ [])) ≡ f (fold f s xs) x
fold_last f s [] x = refl
fold_last f s (y ∷ ys) x = fold_last f (f s y) ys x

count_next : (s : ℕ) (trace : List ℕ) (k : ℕ) → k < length trace
    → count s (take k trace) + has s (get_or trace k 0) ≡ count s (take (suc k) trace)
unfolding count
count_next s trace k more =
    rw (take-suc trace k 0 more, sum_append (has s) (take k trace) (get_or trace k 0 ∷ [])) (omega arith)

module _ (p : Place) (trace : List ℕ) where
  -- the balance after k events, and the least balance at them
  abbrev pub after : ℕ → Tokens
  after k =
      record {
        balance = sub_ℕ (count p.inputs (take k trace)) (count p.outputs (take k trace));
        least = least_of (map (balance_at p trace) (up_to k));
      }

  pub least_next : (k : ℕ) → smaller (after k).least (balance_at p trace k) ≡ (after (suc k)).least
  unfolding least_of balance_at count
  least_next zero = smaller_second (pos 0) (balance_at p trace 0) (difference_le 0 (count p.outputs (take 1 trace)) 0 0 (omega arith))
  least_next (suc k) = sym (least_last (balance_at p trace) (up_to (suc k)) (suc k) (omega (arith, length_up_to (suc k))))

  module _ (k : ℕ) (more : k < length trace) where
    abbrev fed : ℕ
    fed = count p.inputs (take k trace)

    taken_next : (after k).balance -ℤ pos (has p.outputs (get_or trace k 0)) ≡ balance_at p trace k
    unfolding balance_at
    taken_next =
        difference_sub fed (count p.outputs (take k trace)) (has p.outputs (get_or trace k 0))
        ∙ ap (sub_ℕ fed) (count_next p.outputs trace k more)

    balance_next : balance_at p trace k +ℤ pos (has p.inputs (get_or trace k 0)) ≡ (after (suc k)).balance
    unfolding balance_at
    balance_next =
        difference_add fed (count p.outputs (take (suc k) trace)) (has p.inputs (get_or trace k 0))
        ∙ ap (λ (n : ℕ). sub_ℕ n (count p.outputs (take (suc k) trace))) (count_next p.inputs trace k more)

    pub next : after_event p (after k) (get_or trace k 0) ≡ after (suc k)
    unfolding after_event
    next = rw taken_next (λ i. record { balance = balance_next i; least = least_next k i })

  after_events : (k : ℕ) → k ≤ length trace → fold (after_event p) no_tokens (take k trace) ≡ after k
  unfolding count least_of
  after_events zero short = refl
  after_events (suc k) short =
      ap (fold (after_event p) no_tokens) (take-suc trace k 0 short)
      ∙ fold_last (after_event p) no_tokens (take k trace) (get_or trace k 0)
      ∙ ap (λ (t : Tokens). after_event p t (get_or trace k 0)) (after_events k (omega arith))
      ∙ next k short

  -- after all events
  pub event_by_event : fold (after_event p) no_tokens trace ≡ after_trace p trace
  unfolding least_balance last_balance
  event_by_event = rw take-length at (after_events (length trace) (omega arith))
