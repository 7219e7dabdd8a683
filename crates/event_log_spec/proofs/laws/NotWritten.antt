-- What the written form of a log leaves out, a frame or a log for each of its conditions, so that
-- none of them is empty. That it leaves out exactly what checking refuses is shown in Written.
-- Assumes nothing.
use Prim.Native.Nat.{ℕ, ◌^◌}
use native.Mathlib.Omega.{arith}
use mathlib.Core.Path.{◌≡◌, sym, subst}
use mathlib.Core.List.{List, [], ◌∷◌, ◌++◌, nil≢cons, cons≢nil, head-eq_of_cons-eq, tail-eq_of_cons-eq}
use lib.ListN.{length}
use Rattle.foundation.specs.Lists.{Each}
use Rattle.foundation.proofs.laws.Lists.{each_head, each_tail}
use Rattle.event_log_spec.specs.Frames.{count_digits, Behaviour, FrameUnder, WrittenLog}
use Rattle.event_log_spec.proofs.Examples.{frame}

module _ (A : ℕ) where
  pub no_frames : (text : List ℕ) → WrittenLog A [] text → ⊥
  no_frames text log = omega (arith, log.some_frame)

  pub no_case : (trace : List ℕ) → FrameUnder A (frame 0 trace) → ⊥
  no_case trace f = omega (arith, f.counted)

  pub count_too_long : (trace : List ℕ) → FrameUnder A (frame (16 ^ count_digits) trace) → ⊥
  count_too_long trace f = omega (arith, f.countable)

  pub too_many_events : (cases : ℕ) (trace : List ℕ) → length trace ≡ 255 → FrameUnder A (frame cases trace) → ⊥
  too_many_events cases trace e f = omega (arith, f.short)

-- 00 02 01 under a bound of 2
pub unknown_activity : FrameUnder 2 (frame 1 (0 ∷ 2 ∷ 1 ∷ [])) → ⊥
unknown_activity f = omega (arith, each_head (each_tail f.known))

-- a code that may not stand between the start and the end
inside : (P : ℕ → Type 0) {a : ℕ} {between : List ℕ} → (P a → ⊥) → Each P between → between ++ (1 ∷ []) ≡ a ∷ 1 ∷ [] → ⊥
inside P {between = []} not each e = cons≢nil (sym (tail-eq_of_cons-eq e))
inside P {between = b ∷ rest} not each e = not (subst P (head-eq_of_cons-eq e) (each_head each))

-- 00 00 01 and 00 01 01
pub start_inside : Behaviour (0 ∷ 0 ∷ 1 ∷ []) → ⊥
start_inside b = inside _ (λ h. omega arith) b.neither (sym (tail-eq_of_cons-eq b.ends))

pub end_inside : Behaviour (0 ∷ 1 ∷ 1 ∷ []) → ⊥
end_inside b = inside _ (λ h. omega arith) b.neither (sym (tail-eq_of_cons-eq b.ends))

-- 02 01, and 00 alone
pub first_not_start : Behaviour (2 ∷ 1 ∷ []) → ⊥
first_not_start b = omega (arith, head-eq_of_cons-eq b.ends)

pub last_not_end : Behaviour (0 ∷ []) → ⊥
last_not_end b = ends b.between (tail-eq_of_cons-eq b.ends)
  where
    ends : (between : List ℕ) → [] ≡ between ++ (1 ∷ []) → ⊥
    ends [] e = nil≢cons e
    ends (x ∷ rest) e = nil≢cons e
