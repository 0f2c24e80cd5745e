-- `calendar::rules::frequency_of` meets its contract.
use mathlib.Core.Path.{◌∙◌}
use Rattle.calendar.proofs.Choices.{frequency-or}
use Rattle.calendar.proofs.rules.frequency_of.Goals as goal

pub returns : goal.returns
returns c = c.unwrap_or.ensures ∙ frequency-or _ _ c.frequency_named.ensures
