-- Which activity the search for a cover takes up next: one that the fewest words can cover. So
-- where some activity can be covered by no word, that is seen at once.
-- Assumes nothing.
use Rattle.std.specs.Prelude.{ℕ, ◌+◌, ◌-◌, ◌^◌, ◌≤◌, ◌<◌, min, ◌≡◌, true, List, length, get_or, Option, None, Some}
use Rattle.places.specs.Sets.{has}
use Rattle.reduction_spec.specs.Cover.{Cover, choices, balanced}
use Rattle.cover_choice.specs.declared.Tally.{Tally}

-- how many activities a word can have: 16 inputs and 16 outputs
abbrev pub word_activities : ℕ
word_activities = 32

-- counts of the activities of a word, each of which can grow by one
pub record Growable (counts : List ℕ) : Type 0 where
  pub wide : length counts ≡ word_activities
  pub small : (a : ℕ) → a < word_activities → get_or counts a 0 + 1 < 2 ^ 64

-- counts before and after the activities of a word were counted
pub record Grown (word : ℕ) (before after : List ℕ) : Type 0 where
  pub wide : length after ≡ word_activities
  pub counted : (a : ℕ) → a < word_activities → get_or after a 0 ≡ get_or before a 0 + has word a

module _ (words : List ℕ) (whole left : ℕ) where
  -- the activities that at least one, two and three words can cover
  pub record Tallied (t : Tally) : Type 0 where
    pub once : (a : ℕ) → has t.once a ≡ min 1 (choices words whole left a)
    pub twice : (a : ℕ) → has t.twice a ≡ min 1 (choices words whole left a - 1)
    pub thrice : (a : ℕ) → has t.thrice a ≡ min 1 (choices words whole left a - 2)

  -- for each activity, how many words can cover it
  pub record Counts (counts : List ℕ) : Type 0 where
    pub wide : length counts ≡ word_activities
    pub counted : (a : ℕ) → a < word_activities → get_or counts a 0 ≡ choices words whole left a

  -- an activity that is left, of which no other that is left can be covered by fewer words
  pub record Fewest (a : ℕ) : Type 0 where
    pub known : a < word_activities
    pub uncovered : has left a ≡ 1
    pub fewest : (b : ℕ) → has left b ≡ 1 → choices words whole left a ≤ choices words whole left b

  -- such an activity that some word can cover; and where every activity has three choices or more,
  -- the words are balanced
  pub record Promising (a : ℕ) : Type 0 where
    pub fewest : Fewest a
    pub coverable : 0 < choices words whole left a
    pub in_balance : 3 ≤ choices words whole left a → balanced words whole left ≡ true

  -- a right choice is such an activity; that there is none means that there is no cover
  unfoldable pub Chosen : Option ℕ → Type 0
  Chosen (Some a) = Promising a
  Chosen None = Cover words whole left → ⊥
