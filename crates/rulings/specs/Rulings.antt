-- Which way the words of rejected places rule a candidate, as one answer. Document 01, "The walk",
-- second and last paragraphs.
-- Assumes nothing.
use Rattle.std.specs.Prelude.{ℕ, cond, List, Option, None, Some}
use Rattle.std.specs.List.{list_any}
use Rattle.places.specs.declared.Place.{Place}
use Rattle.discovery_spec.specs.Rejected.{rules_underfed, ruled_overfed}
use Rattle.rulings.specs.declared.Ruling.{Ruling}
use Rattle.rulings.specs.declared.Ruling.TheVariants.{AsUnderfed, AsOverfed}

-- which way the words rule c: as overfed where any does, since that also decides about its
-- descendants, else as underfed, or not at all
unfoldable pub ruling_of : List ℕ → Place → Option Ruling
ruling_of rejected c = cond (ruled_overfed rejected c) (Some AsOverfed) (cond (list_any (rules_underfed c) rejected) (Some AsUnderfed) None)
