-- What going through the words of a text gives.
-- Assumes nothing.
use Rattle.std.proofs.Common.{ℕ, ◌≡◌, List}
use Rattle.std.specs.Iterator.{YieldsFirstRef}
use Rattle.std.proofs.lemmas.Iterator.{YieldsList}
use Rattle.std.proofs.lemmas.Iterator.Consumers.{YieldsList-from_first}
use Rattle.case_notation.specs.declared.fields.Parts.{Parts}
use Rattle.case_notation.specs.Fields.{parts_of, words_of}

pub words_give : (parts : Parts) (text : List ℕ) → parts.rest.now ≡ text → parts.separator ≡ 32
    → YieldsList (YieldsFirstRef (λ s. parts_of s.separator s.rest.now)) (λ word. word.now) parts (words_of text)
words_give parts text rest blank = YieldsList-from_first (λ word. word.now) (λ s. parts_of s.separator s.rest.now) (words_of text) (cc)
