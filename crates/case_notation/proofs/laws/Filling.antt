-- A buffer filled from its front on with what an iterator gives, one element after the other.
-- Assumes nothing.
use Rattle.std.proofs.Common.{ℕ, ◌+◌, ◌≤◌, ◌<◌, ◌≡◌, Option, Some, None, List, [], ◌∷◌, ◌++◌, length, take, drop, get_or, set, sym, ap, ◌∙◌, subst, arith}
use borrow.Author.Tests.{le-leb, lt-leb}
use Rattle.std.proofs.Math.ListN.{drop_of_length-le}
use Rattle.std.proofs.Math.Seq.{take_all}
use Rattle.std.proofs.lemmas.Iterator.{YieldsList}
use Rattle.std.proofs.lemmas.List.{drop_more, take_more, set_at, length-take-le, length-drop, append_assoc}
use Rattle.case_notation.specs.Filling.{Filled}

module _ {S A : Type 0} (steps : S → Option A → S → Type 0) (before elements : List A) where
  -- the first elements stand at the front of the buffer, and the iterator gives the others
  pub record FilledTo (items : S) (buffer : List A) (at : ℕ) : Type 0 where
    pub within : at ≤ length elements
    pub stored : buffer ≡ take at elements ++ drop at before
    pub left : YieldsList steps (λ x. x) items (drop at elements)

module _ {S A : Type 0} {steps : S → Option A → S → Type 0} where
  -- an iterator that gives one has some, and one that gives none has none
  begun : {items next : S} {x : A} (elements : List A) → YieldsList steps (λ x. x) items elements → steps items (Some x) next → 0 < length elements
  begun {next = next} {x = x} [] y given = absurd (y.runs x next given)
  begun (e ∷ es) y given = omega arith

  ended : {items next : S} (elements : List A) → YieldsList steps (λ x. x) items elements → steps items None next → length elements ≤ 0
  ended [] y given = omega arith
  ended {next = next} (e ∷ es) y given = absurd (y.runs.0 next given)

  module _ {before elements : List A} {items : S} {buffer : List A} {at : ℕ} (f : FilledTo steps before elements items buffer at) where
    pub one_filled : {x : A} {next : S} → steps items (Some x) next → at < length before → FilledTo steps before elements next (set buffer at x) (at + 1)
    one_filled {x} {next} given room =
        let inside : at < length elements = omega (arith, begun _ f.left given, length-drop at elements) in
        let there = (subst (YieldsList steps (λ x. x) items) (drop_more elements at x inside) f.left).runs.1 x next given in
        let last = take_more elements at x inside in
        let joined = append_assoc (take at elements) (get_or elements at x ∷ []) (drop (at + 1) before) in
        record {
          within = omega (arith, inside);
          stored =
              ap (λ (b : List A). set b at x) (f.stored ∙ ap (◌++◌ (take at elements)) (drop_more before at x room))
              ∙ set_at (take at elements) (get_or before at x) (drop (at + 1) before) x at (length-take-le at elements f.within)
              ∙ cc (there.0);
          left = record { runs = there.1 };
        }

    -- all that the iterator gives
    pub all_filled : {next : S} → steps items None next → at ≤ length before → Filled before elements buffer (Some at)
    all_filled given room =
        let all : length elements ≡ at = omega (arith, f.within, ended _ f.left given, length-drop at elements) in
        record {
          stored =
              f.stored
              ∙ ap (λ (l : List A). l ++ drop at before) (take_all at elements (omega arith) ∙ sym (take_all (length before) elements (omega arith)))
              ∙ ap (λ (n : ℕ). take (length before) elements ++ drop n before) (sym all);
          counted = rw (le-leb (length elements) (length before) (omega arith)) (ap Some (sym all));
        }

    -- a full buffer, and the iterator gives more
    pub no_room : {x : A} {next : S} → steps items (Some x) next → length before ≤ at → at ≤ length before → Filled before elements buffer None
    no_room given full room =
        let more : at < length elements = omega (arith, begun _ f.left given, length-drop at elements) in
        record {
          stored =
              f.stored
              ∙ ap (λ (n : ℕ). take n elements ++ drop at before) (omega arith)
              ∙ ap (◌++◌ (take (length before) elements))
              (drop_of_length-le before full ∙ sym (drop_of_length-le before (omega arith)));
          counted = rw (lt-leb (length elements) (length before) (omega arith));
        }
