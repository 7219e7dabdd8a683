-- What the pieces of a text stand for: the first, and then the others.
-- Assumes nothing.
use Rattle.std.proofs.Common.{ℕ, ◌≡◌, List, ◌∷◌, ◌++◌, map, ap, ◌∙◌}
use Rattle.std.specs.List.{flat_map}
use Rattle.std.proofs.lemmas.List.{map-append}
use Rattle.std.proofs.lemmas.Grind.{flat_map-append}
use Rattle.case_notation.specs.Texts.{byte_meant, copies, bytes_meant, piece_meant}

pub pieces_meant : (pieces others : List (List ℕ)) (piece : List ℕ) → pieces ≡ piece ∷ others
    → bytes_meant (flat_map copies pieces) ≡ piece_meant piece ++ bytes_meant (flat_map copies others)
pieces_meant pieces others piece e =
    rw e
    (ap (map byte_meant) (flat_map-append (λ bytes. bytes) (copies piece) (flat_map copies others))
    ∙ map-append byte_meant (flat_map (λ bytes. bytes) (copies piece)) _)
