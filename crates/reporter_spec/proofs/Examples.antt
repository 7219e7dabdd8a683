-- The definitions of placelist, tried on a small list and on input that is refused.
-- Assumes nothing.
use mathlib.Core.Path.{◌≡◌, refl}
use mathlib.Core.List.{[], ◌∷◌}
use lib.ListN.{replicate}
use Rattle.foundation.specs.Text.{bytes}
use Rattle.discovery_spec.specs.declared.End.TheVariants.{BudgetSpent}
use Rattle.discovery_spec.specs.Search.{State, going, stopped}
use Rattle.reporter_spec.specs.Program.{capacity, report, placelist}
use Rattle.reporter_spec.proofs.Opened.{opened}

-- a run that found 1/1, 2/2 and both together in 255 replays and 4,096 visits
abbrev state : State
state =
    record {
      rejected = [];
      found = 0x00010001 ∷ 0x00020002 ∷ 0x00030003 ∷ [];
      replays = 255;
      visits = 4096;
      pruned = [];
    }

pub record ProgramExamples : Type 0 where
  pub given : capacity ≡ record { rejected = 1024; found = 4096; budget = 1000000 }
  -- reduced after end 0, and as found otherwise
  pub completed : report (going state) ≡ bytes "00010001\n00020002\n00000000FF00001000\n"
  pub stopped_early : report (stopped BudgetSpent state) ≡ bytes "00010001\n00020002\n00030003\n01000000FF00001000\n"
  pub oversize : placelist (replicate 65537 48) ≡ bytes "FF0500000000\n"
  pub largest : placelist (replicate 65536 48) ≡ bytes "FF0100000000\n"
  pub no_input : placelist [] ≡ bytes "FF0100000000\n"
  pub lower_case : placelist (bytes "0a01010000\n000000010001\n") ≡ bytes "FF0100000000\n"
  pub non_digit : placelist (bytes "02010100g0\n000000010001\n") ≡ bytes "FF0100000000\n"
  pub no_line_feed : placelist (bytes "0201010000") ≡ bytes "FF0100000000\n"
  pub too_long_a_frame : placelist (bytes "02010100000\n000000010001\n") ≡ bytes "FF0100000000\n"
  pub out_of_range : placelist (bytes "0203010000\n000000010001\n") ≡ bytes "FF0100000000\n"
  pub no_log : placelist (bytes "0201010000\n") ≡ bytes "FF0600000000\n"
  pub second_line : placelist (bytes "0201010000\n000000010001\n000000010201\n") ≡ bytes "FF0300000001\n"
  pub settings_in_order : placelist (bytes "02010203E8\n000000010001\n") ≡ bytes "00010001\n00020001\n00010003\n00020003\n00010002\n00020002\n000000000600000006\n"

pub program_examples : ProgramExamples
unfolding opened
program_examples =
    record {
      given = refl;
      completed = refl;
      stopped_early = refl;
      oversize = refl;
      largest = refl;
      no_input = refl;
      lower_case = refl;
      non_digit = refl;
      no_line_feed = refl;
      too_long_a_frame = refl;
      out_of_range = refl;
      no_log = refl;
      second_line = refl;
      settings_in_order = refl;
    }
