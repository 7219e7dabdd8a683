-- The call's answer and what it leaves in the buffer, tried at the least room and on an input that
-- is refused.
-- Assumes nothing.
use Rattle.std.specs.Prelude.{Ok, Err}
use mathlib.Core.Path.{◌≡◌, refl}
use mathlib.Core.List.{[], ◌∷◌, ◌++◌}
use lib.ListN.{replicate}
use Rattle.foundation.specs.Text.{bytes}
use Rattle.limits.specs.declared.Refusal.TheVariants.{BufferTooSmall}
use Rattle.reporter.specs.Reporting.{reported, output_after}
use Rattle.reporter.proofs.Opened.{opened}

pub record Examples : Type 0 where
  pub least_room : reported [] 36883 ≡ Ok 13
  pub too_short : reported [] 36882 ≡ Err BufferTooSmall
  pub refused_as_found : output_after [] (1 ∷ 2 ∷ []) ≡ 1 ∷ 2 ∷ []
  pub tail_kept : output_after [] (replicate 36884 33) ≡ bytes "FF0100000000\n" ++ replicate 36871 33

pub examples : Examples
unfolding opened
examples =
    record { least_room = refl; too_short = refl; refused_as_found = refl; tail_kept = refl }
