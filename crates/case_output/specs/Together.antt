-- Which words and bytes are written together.
-- Assumes nothing.
use Rattle.std.specs.Prelude.{ℕ, ◌+◌, ◌==◌, ◌≡◌, cond, leb, List}
use Rattle.case_notation.specs.Runs.{run_length}

-- whatever a word converts to is its number, which of the words of lists and caches is the word
-- itself
abbrev pub ConvertsTo : {T : Type 0} → (T → ℕ → Type 0) → (T → ℕ) → Type 0
ConvertsTo {T} converts number = (word : T) (converted : ℕ) → converts word converted → converted ≡ number word

-- how many words from the first on are each so much more than the one before
abbrev pub progression : ℕ → List ℕ → ℕ
progression step words = run_length (λ before word. before + step == word) words

-- how many words from the first on are written together: those of a progression where they are
-- three or more, and else the first alone
abbrev pub together : ℕ → List ℕ → ℕ
together step words = cond (leb 3 (progression step words)) (progression step words) 1
