-- The checks of a call on a log: nothing is refused exactly when its settings and its place pass,
-- the text has a byte, and no line has a fault; where all but the lines pass, the lines decide.
-- To check a log A is enough, so the settings of that call pass when A is in its range.
-- Assumes nothing.
use Rattle.std.specs.Prelude.{Option, None, Result, Err}
use Prim.Native.Nat.{ℕ, ◌≤◌}
use native.Mathlib.Omega.{arith}
use mathlib.Core.Path.{◌≡◌}
use mathlib.Core.Logic.{◌↔◌}
use mathlib.Core.Bool.{true, false, not}
use mathlib.Core.List.{List, [], ◌∷◌}
use borrow.Author.Tests.{eqb-false, ne_eqb, not-false}
use lib.Dec.{eqb}
use lib.ListN.{length}
use Rattle.limits.specs.declared.Refusal.{Refusal}
use Rattle.limits.specs.declared.Refusal.TheVariants.{InvalidSetting, EmptyLog}
use Rattle.limits.specs.Refusals.{first_refusal, Numbered, answer_number, answer_value}
use Rattle.limits.specs.Settings.{bound_in_range, bound_fault}
use Rattle.event_log_spec.specs.declared.LogSize.{LogSize}
use Rattle.event_log_spec.specs.Checking.{empty_fault, text_fault, log_refusal, log_refusal_with, checked, checked_with}
use Rattle.limits.proofs.laws.AnswerNumbers.{numbered}
use Rattle.limits.proofs.laws.FirstOf.{given_none, first_alone, first_none}

pub bound_passes : (A : ℕ) → (bound_fault A ≡ None) ↔ (bound_in_range A ≡ true)
unfolding bound_fault
bound_passes A = (λ e. not-false (bound_in_range A) (given_none (not (bound_in_range A)) InvalidSetting e), λ e. rw e)

some_byte_passes : (text : List ℕ) → (empty_fault text ≡ None) ↔ (1 ≤ length text)
unfolding empty_fault
some_byte_passes text = (
  λ e. let h : length text ≡ 0 → ⊥ = eqb-false (length text) 0 (given_none (eqb (length text) 0) EmptyLog e) in omega arith,
  λ h. rw (ne_eqb (length text) 0 (λ z. omega arith)),
)

-- nothing is refused
pub record LogPasses (settings places : Option Refusal) (A : ℕ) (text : List ℕ) : Type 0 where
  pub settings_pass : settings ≡ None
  pub places_pass : places ≡ None
  pub some_byte : 1 ≤ length text
  pub lines_pass : text_fault A text ≡ None

module _ (A : ℕ) (text : List ℕ) where
  pub lines_decide : 1 ≤ length text → log_refusal None None A text ≡ text_fault A text
  unfolding log_refusal_with first_refusal
  lines_decide some_byte = rw ((some_byte_passes text).1 some_byte) (first_alone (text_fault A text))

  module _ (settings places : Option Refusal) where
    passes : log_refusal settings places A text ≡ None → LogPasses settings places A text
    unfolding log_refusal_with first_refusal
    passes e =
        let text_checks = empty_fault text ∷ text_fault A text ∷ None ∷ [] in
        let parts₁ = first_none settings (None ∷ places ∷ None ∷ None ∷ text_checks) e in
        let parts₂ = first_none places (None ∷ None ∷ text_checks) parts₁.1 in
        let parts₃ = first_none (empty_fault text) (text_fault A text ∷ None ∷ []) parts₂.1 in
        record {
          settings_pass = parts₁.0;
          places_pass = parts₂.0;
          some_byte = (some_byte_passes text).0 parts₃.0;
          lines_pass = (first_none (text_fault A text) (None ∷ []) parts₃.1).0;
        }

    pub log_passes : (log_refusal settings places A text ≡ None) ↔ LogPasses settings places A text
    log_passes = (passes, λ p. rw (p.settings_pass, p.places_pass, lines_decide p.some_byte) p.lines_pass)

-- what checking a log answers, by the checks before those of its lines
module _ (A : ℕ) (text : List ℕ) where
  pub bound_refused : bound_in_range A ≡ false → checked A text ≡ Err InvalidSetting
  unfolding checked_with bound_fault log_refusal_with first_refusal
  bound_refused e = rw e

  pub checked_numbered : (r : Result LogSize Refusal) → r ≡ checked A text
      → Numbered (log_refusal (bound_fault A) None A text) (answer_number r) (answer_value r)
  unfolding checked_with
  checked_numbered r e = numbered _ _ e
