-- What a lent buffer holds once items were written from its front: its tail is unchanged.
-- Assumes nothing.
use Rattle.std.specs.Prelude.{List, ◌++◌, length, drop}

-- the items, then what the buffer held beyond them
abbrev pub overwrite : {A : Type 0} → List A → List A → List A
overwrite items before = items ++ drop (length items) before
