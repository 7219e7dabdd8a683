-- Trying the words that cover one activity, one after the other. A cover begins with one of them,
-- so where each word before an index fails and the index is the end, there is no cover; where one
-- succeeds, it and the cover of the rest make one.
-- Assumes nothing.
use Prim.Native.Nat.{ℕ, ◌+◌, ◌-◌, ◌/◌, ◌%◌, ◌≤◌, ◌<◌}
use native.Mathlib.Omega.{arith}
use mathlib.Core.Path.{◌≡◌, refl, sym, subst, ◌∙◌}
use mathlib.Core.Logic.{◌↔◌}
use mathlib.Core.Bool.{true, false, false≢true}
use mathlib.Core.List.{List}
use borrow.Author.Tests.{ne_eqb}
use lib.ListN.{length, get_or, take}
use lib.Seq.{take_all}
use Rattle.std.proofs.lemmas.List.{take_more}
use Rattle.foundation.specs.Lists.{Each, each_nil, each_cons}
use Rattle.foundation.proofs.laws.Each.{each_append}
use Rattle.foundation.proofs.laws.Members.{each_member, member_at}
use Rattle.places.specs.Sets.{has}
use Rattle.places.specs.Places.{place_of, through}
use Rattle.reduction_spec.specs.Cover.{Listable, usable, Cover, nothing_left, take_part}
use Rattle.reduction_spec.proofs.laws.Covers.{covering_part, both_halves}
use Rattle.cover_choice.specs.Choosing.{Fewest}

-- an answer that says no is right where there is no cover
pub says_no : {words : List ℕ} {whole left : ℕ} → (Cover words whole left → ⊥) → (false ≡ true) ↔ Cover words whole left
says_no none = (λ e. absurd (false≢true e), λ cover. absurd (none cover))

-- one that says yes is right where there is one
pub says_yes : {words : List ℕ} {whole left : ℕ} → Cover words whole left → (true ≡ true) ↔ Cover words whole left
says_yes cover = (λ e. cover, λ c. refl)

-- what has inputs only, or outputs only, has no cover
pub one_kind_left : {words : List ℕ} {whole : ℕ} (left : ℕ) → Listable words → (left ≡ 0 → ⊥) → through (place_of left) ≡ false → Cover words whole left → ⊥
unfolding through place_of
one_kind_left left places some one_kind cover =
    let both = both_halves places cover some in
    false≢true (sym one_kind ∙ rw (ne_eqb (left % 65536) 0 both.1, ne_eqb (left / 65536) 0 (λ none. omega (arith, both.0))) refl)

module _ (words : List ℕ) (whole left a : ℕ) where
  -- no cover begins with the word, as one that covers the activity
  abbrev pub Fails : ℕ → Type 0
  Fails w = usable whole left w ≡ true → has w a ≡ 1 → Cover words whole (left - w) → ⊥

  -- the words before an index were tried in vain
  pub record Tried (at : ℕ) : Type 0 where
    pub choice : Fewest words whole left a
    pub failed : Each Fails (take at words)

module _ {words : List ℕ} {whole left a : ℕ} where
  pub tried_none : Fewest words whole left a → Tried words whole left a 0
  tried_none chosen = record { choice = chosen; failed = each_nil }

  pub tried_more : {at : ℕ} → Tried words whole left a at → at < length words → Fails words whole left a (get_or words at 0)
      → Tried words whole left a (at + 1)
  tried_more {at} t l fails =
      record {
        choice = t.choice;
        failed = rw (take_more words at 0 l) (each_append t.failed (each_cons fails each_nil));
      }

  pub tried_all : {at : ℕ} → Tried words whole left a at → length words ≤ at → Cover words whole left → ⊥
  tried_all {at} t end cover =
      let found = covering_part a t.choice.uncovered cover in
      each_member (rw (take_all at words end) at t.failed) found.1 found.2 found.3 found.4

-- where a word can be taken away and what it leaves has a cover, so has the whole
pub succeeds : {words : List ℕ} {whole left : ℕ} (at : ℕ) → at < length words → usable whole left (get_or words at 0) ≡ true
    → Cover words whole (left - get_or words at 0) → Cover words whole left
succeeds {words} at l u rest = take_part (get_or words at 0) (member_at words at 0 l) u rest

pub leaves_nothing : {words : List ℕ} {whole left : ℕ} → left ≡ 0 → Cover words whole left
leaves_nothing {words} {whole} none = subst (Cover words whole) (sym none) nothing_left
