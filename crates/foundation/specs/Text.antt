-- The bytes of a quoted text of ASCII characters, for examples and worked cases.
-- Assumes nothing.
use Rattle.std.specs.Prelude.{ℕ, List, [] as nil, ◌∷◌ as cons}
use Prim.Native.Char.{code}
use Prim.Native.String.{String, [], ◌∷◌}

abbrev pub bytes : String → List ℕ
bytes [] = nil
bytes (c ∷ s) = cons (code c) (bytes s)
