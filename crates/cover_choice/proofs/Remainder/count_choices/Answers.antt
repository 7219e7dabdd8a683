-- `cover_choice::Remainder::count_choices` meets its contract: at first nothing was counted.
-- Assumes nothing.
use Rattle.cover_choice.proofs.laws.CountingChoices.{none_counted}
use Rattle.cover_choice.proofs.Remainder.count_choices.Goals as goal

pub loop-word-init : goal.loop-word-init
loop-word-init c = none_counted
