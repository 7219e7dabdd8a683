-- The set past a given one and the set after it, by the highest code: past a set its highest code
-- moves up by one, or falls away where it is the highest of all, and then the next one moves up;
-- after a set comes the code above its highest, where there is room for it. Of a set with each code
-- one more these give what they give of the set itself, with each code one more, since its highest
-- code is one more too.
-- Assumes nothing.
use Prim.Native.Nat.{ℕ, suc, ◌+◌, ◌-◌, ◌*◌, ◌^◌, ◌≤◌, ◌<◌}
use native.Mathlib.Omega.{arith}
use native.Mathlib.Nat.{pow-suc}
use mathlib.Core.Path.{◌≡◌, refl, ap, ◌∙◌}
use mathlib.Core.Logic.{◌⊎◌, inl, inr}
use mathlib.Core.Bool.{Bool, true, false, cond, ◌&&◌, and-false}
use lib.Dec.{eqb, ltb, leb-suc-suc}
use lib.Pow.{pow_pos}
use borrow.Author.Tests.{lt-ltb, le-ltb, eqb-true, eqb-false, eq-eqb, ne_eqb}
use Rattle.foundation.proofs.laws.Booleans.{by_test}
use Rattle.places.specs.Sets.{codes, size}
use Rattle.candidate_order_spec.proofs.laws.Doubling.{size_raised, size_raised_zero}
use Rattle.candidate_order_spec.proofs.laws.Highest.{highest, highest_one, HighestCode, highest_code, highest_is, highest_raised, highest_raised_zero}

-- a set with its highest code moved up by one, 0 of the empty set
unfoldable pub moved_up : ℕ → ℕ
moved_up s = cond (eqb s 0) 0 (s + 2 ^ highest s)

-- the set past s among those of codes below n
unfoldable pub past_by : ℕ → ℕ → ℕ
past_by n s = cond (ltb (suc (highest s)) n) (moved_up s) (moved_up (s - 2 ^ highest s))

-- the set after s among those of at most m codes below n
unfoldable pub after_by : ℕ → ℕ → ℕ → ℕ
after_by n m s = cond (ltb (suc (highest s)) n && ltb (size s) m) (s + 2 ^ suc (highest s)) (past_by n s)

-- the first of some sets raised with code 0, where t is the first of them, and the set of code 1
-- alone where there are none
unfoldable pub raised_or_one : ℕ → ℕ
raised_or_one t = cond (eqb t 0) 2 (2 * t + 1)

-- the highest code moves up in a raised set as in the set itself
moved_raised : (t : ℕ) → t < 32768 → moved_up (2 * t) ≡ 2 * moved_up t
unfolding moved_up
moved_raised t small =
    by_test
    (eqb t 0)
    (λ e. rw (e, eq-eqb (2 * t) 0 (omega (arith, eqb-true t 0 e))))
    (λ e.
    let some : 0 < t = omega (arith, eqb-false t 0 e) in
    rw (e, ne_eqb (2 * t) 0 (λ z. omega arith)) (omega (arith, ap (◌^◌ 2) (highest_raised t some small), pow-suc 2 (highest t))))

moved_raised_zero : (t : ℕ) → t < 32768 → moved_up (2 * t + 1) ≡ raised_or_one (moved_up t)
unfolding moved_up raised_or_one
moved_raised_zero t small =
    by_test
    (eqb t 0)
    (λ e. rw (eqb-true t 0 e, highest_one))
    (λ e.
    let some : 0 < t = omega (arith, eqb-false t 0 e) in
    rw (e, ne_eqb (2 * t + 1) 0 (λ z. omega arith), ne_eqb (t + 2 ^ highest t) 0 (λ z. omega arith))
    (omega (arith, ap (◌^◌ 2) (highest_raised_zero t some small), pow-suc 2 (highest t))))

pub raised_some : (t : ℕ) → 0 < t → raised_or_one t ≡ 2 * t + 1
unfolding raised_or_one
raised_some t some = rw (ne_eqb t 0 (λ z. omega arith))

-- a function of the branch that is taken
cond_ap : (f : ℕ → ℕ) (b : Bool) (x y : ℕ) → cond b (f x) (f y) ≡ f (cond b x y)
cond_ap f true x y = refl
cond_ap f false x y = refl

-- past and after the set of code 0 alone: where there is no other code nothing, where there are
-- others that of code 1 alone, and that of both where two are allowed
pub past_last : past_by 1 1 ≡ 0
unfolding past_by moved_up
past_last = rw highest_one

pub past_one : (n : ℕ) → past_by (suc (suc n)) 1 ≡ 2
unfolding past_by moved_up
past_one n = rw (highest_one, lt-ltb 1 (suc (suc n)) (omega arith))

pub after_last : (m : ℕ) → after_by 1 m 1 ≡ 0
unfolding after_by
after_last m = rw highest_one past_last

pub after_one : (n : ℕ) → after_by (suc (suc n)) 1 1 ≡ 2
unfolding after_by size codes
after_one n = rw (highest_one, and-false) (past_one n)

pub after_both : (n m : ℕ) → after_by (suc (suc n)) (suc (suc m)) 1 ≡ 3
unfolding after_by size codes
after_both n m = rw (highest_one, lt-ltb 1 (suc (suc n)) (omega arith), lt-ltb 1 (suc (suc m)) (omega arith))

-- past and after the raised sets
module _ (t : ℕ) (some : 0 < t) (small : t < 32768) where
  abbrev h : ℕ
  h = highest t

  fits : 2 ^ h ≤ t
  fits = (highest_code t some (omega arith)).1

  pub past_raised : (n : ℕ) → past_by (suc n) (2 * t) ≡ 2 * past_by n t
  unfolding past_by
  past_raised n =
      let rest : 2 * t - 2 ^ suc h ≡ 2 * (t - 2 ^ h) = omega (arith, pow-suc 2 h) in
      rw (highest_raised t some small, leb-suc-suc (suc (suc h)) n, rest, moved_raised t small, moved_raised (t - 2 ^ h) (omega arith))
      (cond_ap (◌*◌ 2) (ltb (suc h) n) (moved_up t) (moved_up (t - 2 ^ h)))

  pub past_raised_zero : (n : ℕ) → past_by (suc n) (2 * t + 1) ≡ raised_or_one (past_by n t)
  unfolding past_by
  past_raised_zero n =
      let rest : 2 * t + 1 - 2 ^ suc h ≡ 2 * (t - 2 ^ h) + 1 = omega (arith, pow-suc 2 h, fits) in
      rw (
        highest_raised_zero t some small,
        leb-suc-suc (suc (suc h)) n,
        rest,
        moved_raised_zero t small,
        moved_raised_zero (t - 2 ^ h) (omega arith),
      )
      (cond_ap raised_or_one (ltb (suc h) n) (moved_up t) (moved_up (t - 2 ^ h)))

  pub after_raised : (n m : ℕ) → after_by (suc n) m (2 * t) ≡ 2 * after_by n m t
  unfolding after_by
  after_raised n m =
      let added : 2 * t + 2 ^ suc (suc h) ≡ 2 * (t + 2 ^ suc h) = omega (arith, pow-suc 2 (suc h)) in
      rw (highest_raised t some small, leb-suc-suc (suc (suc h)) n, size_raised t small, added, past_raised n)
      (cond_ap (◌*◌ 2) (ltb (suc h) n && ltb (size t) m) (t + 2 ^ suc h) (past_by n t))

  pub after_raised_zero : (n m : ℕ) → after_by (suc n) (suc m) (2 * t + 1) ≡ raised_or_one (after_by n m t)
  unfolding after_by
  after_raised_zero n m =
      let added : 2 * t + 1 + 2 ^ suc (suc h) ≡ raised_or_one (t + 2 ^ suc h) =
      omega (arith, pow-suc 2 (suc h), raised_some (t + 2 ^ suc h) (omega arith)) in
      rw (
        highest_raised_zero t some small,
        leb-suc-suc (suc (suc h)) n,
        size_raised_zero t small,
        leb-suc-suc (suc (size t)) m,
        added,
        past_raised_zero n,
      )
      (cond_ap raised_or_one (ltb (suc h) n && ltb (size t) m) (t + 2 ^ suc h) (past_by n t))

-- past and after a set of which h is the highest code, by the tests of the code
moved_some : (h s : ℕ) → HighestCode h s → moved_up s ≡ s + 2 ^ h
unfolding moved_up
moved_some h s code = rw (ne_eqb s 0 (λ e. omega (arith, pow_pos h)), highest_is h s code)

module _ (h s : ℕ) (code : HighestCode h s) where
  pub past_moved : (n : ℕ) → suc h < n → past_by n s ≡ s + 2 ^ h
  unfolding past_by
  past_moved n room = rw (highest_is h s code, lt-ltb (suc h) n room) (moved_some h s code)

  past_without : (n : ℕ) → n ≤ suc h → past_by n s ≡ moved_up (s - 2 ^ h)
  unfolding past_by
  past_without n full = rw (highest_is h s code, le-ltb (suc h) n full)

  pub past_none : (n : ℕ) → n ≤ suc h → s - 2 ^ h ≡ 0 → past_by n s ≡ 0
  unfolding moved_up
  past_none n full none = past_without n full ∙ rw none

  pub past_fallen : (n g : ℕ) → n ≤ suc h → HighestCode g (s - 2 ^ h) → past_by n s ≡ s - 2 ^ h + 2 ^ g
  past_fallen n g full next = past_without n full ∙ moved_some g (s - 2 ^ h) next

  pub after_added : (n m : ℕ) → suc h < n → size s < m → after_by n m s ≡ s + 2 ^ suc h
  unfolding after_by
  after_added n m room fewer = rw (highest_is h s code, lt-ltb (suc h) n room, lt-ltb (size s) m fewer)

  pub after_past : (n m : ℕ) → (n ≤ suc h) ⊎ (m ≤ size s) → after_by n m s ≡ past_by n s
  unfolding after_by
  after_past n m (inl full) = rw (highest_is h s code, le-ltb (suc h) n full)
  after_past n m (inr full) = rw (le-ltb (size s) m full, and-false)
