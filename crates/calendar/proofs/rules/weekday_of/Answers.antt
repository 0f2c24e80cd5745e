-- `calendar::rules::weekday_of` meets its contract.
use mathlib.Core.Path.{◌∙◌}
use Rattle.calendar.proofs.Choices.{weekday-or}
use Rattle.calendar.proofs.rules.weekday_of.Goals as goal

pub returns : goal.returns
returns c = c.unwrap_or.ensures ∙ weekday-or _ _ c.weekday_named.ensures
