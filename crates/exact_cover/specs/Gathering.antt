-- The words that can be parts of what is left of a place, gathered in a buffer: as many as there is
-- room for, from its front, and then what it held beyond them.
-- Assumes nothing.
use Rattle.std.specs.Prelude.{ℕ, cond, List, leb, length, take, Option, None, Some}
use Rattle.foundation.specs.Buffers.{overwrite}
use Rattle.reduction_spec.specs.Cover.{parts_of}

-- the answer for a buffer of that many words: how many there are, where it takes all
unfoldable pub gathered : List ℕ → ℕ → ℕ → ℕ → Option ℕ
gathered words whole left room =
    cond (leb (length (parts_of words whole left)) room) (Some (length (parts_of words whole left))) None

-- what the buffer holds on return
unfoldable pub gathered_after : List ℕ → ℕ → ℕ → List ℕ → List ℕ
gathered_after words whole left before = overwrite (take (length before) (parts_of words whole left)) before
