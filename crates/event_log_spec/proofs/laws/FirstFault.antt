-- The lines of a text give a refusal exactly when some line has a fault, and it is the first fault
-- of the first such line, which it names. The lines are tried from the front; `LineFaults` has the
-- order of the faults of one line.
-- Assumes nothing.
use Rattle.std.specs.Prelude.{None, Some, Err}
use Rattle.std.proofs.lemmas.Option.{none-some}
use Prim.Native.Nat.{ℕ, zero, suc, ◌+◌, ◌≤◌, ◌<◌}
use native.Mathlib.Nat.{zero-add, add-zero}
use native.Mathlib.Omega.{arith}
use mathlib.Core.Path.{◌≡◌, sym, ◌∙◌}
use mathlib.Core.Logic.{◌↔◌}
use mathlib.Core.Bool.{true, false}
use mathlib.Core.List.{List, [], ◌∷◌}
use lib.ListN.{length, get_or}
use Rattle.limits.specs.declared.Refusal.{Refusal}
use Rattle.limits.specs.Settings.{bound_in_range}
use Rattle.event_log_spec.specs.Lines.{Line, lines}
use Rattle.event_log_spec.specs.Checking.{line_fault, lines_fault, lines_fault_with, text_fault, text_fault_with, size_of, checked, checked_with}
use Rattle.limits.proofs.laws.FirstOf.{first_some}
use Rattle.limits.proofs.laws.AnswerNumbers.{answer_refused}
use Rattle.event_log_spec.proofs.laws.LogChecks.{bound_passes, lines_decide}
use Rattle.event_log_spec.proofs.laws.LineFaults.{NamesLine, fault_order, names_line}

-- the line with index k; past the last, one with no byte
abbrev pub line_at : List Line → ℕ → Line
line_at ls k = get_or ls k (record { bytes = []; ended = false })

-- of lines counted from `start`, those before the one with index k have no fault
abbrev SoundBefore : ℕ → ℕ → List Line → ℕ → Type 0
SoundBefore A start ls k = (j : ℕ) → j < k → line_fault A (start + j) (line_at ls j) ≡ None

-- of lines counted from `start`, the first that has a fault
record FirstFrom (A start : ℕ) (ls : List Line) (r : Refusal) : Type 0 where
  index : ℕ
  there : index < length ls
  sound_before : SoundBefore A start ls index
  faulty : line_fault A (start + index) (line_at ls index) ≡ Some r

shifted : (A start j : ℕ) (l : Line) → line_fault A (start + suc j) l ≡ line_fault A (suc start + j) l
shifted A start j l = let same : start + suc j ≡ suc start + j = omega arith in rw same

module _ (A : ℕ) (r : Refusal) where
  here_first : (start : ℕ) (l : Line) (ls : List Line) → line_fault A start l ≡ Some r → FirstFrom A start (l ∷ ls) r
  here_first start l ls e =
      record { index = 0; there = omega arith; sound_before = λ j h. absurd (omega arith); faulty = rw (add-zero start) e }

  later_first : (start : ℕ) (l : Line) (ls : List Line) → line_fault A start l ≡ None → FirstFrom A (suc start) ls r
      → FirstFrom A start (l ∷ ls) r
  later_first start l ls e f =
      record {
        index = suc f.index;
        there = omega (arith, f.there);
        sound_before = before;
        faulty = shifted A start f.index (line_at ls f.index) ∙ f.faulty;
      }
    where
      before : SoundBefore A start (l ∷ ls) (suc f.index)
      before zero h = rw (add-zero start) e
      before (suc j) h = shifted A start j (line_at ls j) ∙ f.sound_before j (omega arith)

  first_from : (start : ℕ) (ls : List Line) → lines_fault A start ls ≡ Some r → FirstFrom A start ls r
  unfolding lines_fault_with
  first_from start [] e = absurd (none-some r e)
  first_from start (l ∷ ls) e =
      first_some
      (line_fault A start l)
      (lines_fault A (suc start) ls)
      r
      e
      (here_first start l ls)
      (λ none_here later. later_first start l ls none_here (first_from (suc start) ls later))

  from_first : (start : ℕ) (ls : List Line) (k : ℕ) → k < length ls → SoundBefore A start ls k
      → line_fault A (start + k) (line_at ls k) ≡ Some r
      → lines_fault A start ls ≡ Some r
  unfolding lines_fault_with
  from_first start [] k there before faulty = absurd (omega arith)
  from_first start (l ∷ ls) zero there before faulty = let here = rw (add-zero start) at faulty in rw here
  from_first start (l ∷ ls) (suc k) there before faulty =
      let none_here = rw (add-zero start) at (before 0 (omega arith)) in
      let before_later : SoundBefore A (suc start) ls k = λ j h. sym (shifted A start j (line_at ls j)) ∙ before (suc j) (omega arith) in
      rw (none_here, from_first (suc start) ls k (omega arith) before_later (sym (shifted A start k (line_at ls k)) ∙ faulty))

-- the line that decides: it has a fault, none before it has one, and r is its first and names it
pub record FirstFaultyLine (A : ℕ) (text : List ℕ) (r : Refusal) : Type 0 where
  pub index : ℕ
  pub there : index < length (lines text)
  pub sound_before : (j : ℕ) → j < index → line_fault A j (line_at (lines text) j) ≡ None
  pub faulty : line_fault A index (line_at (lines text) index) ≡ Some r
  pub names : NamesLine index r

module _ (A : ℕ) (text : List ℕ) (r : Refusal) where
  first_line : FirstFrom A 0 (lines text) r → FirstFaultyLine A text r
  first_line f =
      let faulty = rw (zero-add f.index) at f.faulty in
      record {
        index = f.index;
        there = f.there;
        sound_before = λ j h. rw (zero-add j) at (f.sound_before j h);
        faulty = faulty;
        names = names_line ((fault_order A f.index (line_at (lines text) f.index) (Some r)).0 faulty);
      }

  pub first_faulty_line : (text_fault A text ≡ Some r) ↔ FirstFaultyLine A text r
  unfolding text_fault_with
  first_faulty_line = (
    λ e. first_line (first_from A r 0 (lines text) e),
    λ f.
        from_first A r 0 (lines text) f.index f.there
        (λ j h. rw (zero-add j) (f.sound_before j h))
        (rw (zero-add f.index) f.faulty),
  )

-- checking a text of some bytes under a bound in its range refuses it for just this
pub refused_exactly : (A : ℕ) (text : List ℕ) (r : Refusal) → bound_in_range A ≡ true → 1 ≤ length text
    → (checked A text ≡ Err r) ↔ FirstFaultyLine A text r
unfolding checked_with
refused_exactly A text r in_range some_byte =
    let law = answer_refused (text_fault A text) (size_of text) r in
    rw ((bound_passes A).1 in_range, lines_decide A text some_byte)
    (λ e. (first_faulty_line A text r).0 (law.0 e), λ f. law.1 ((first_faulty_line A text r).1 f))
