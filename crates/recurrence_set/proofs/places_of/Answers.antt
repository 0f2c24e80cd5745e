-- `recurrence_set::places_of` meets its contract.
use Rattle.recurrence_set.proofs.Places.{all-hours, all-days}
use mathlib.Core.Path.{sym, ◌∙◌}
use Rattle.recurrence_set.proofs.places_of.Goals as goal

pub returns-then-is_hourly : goal.returns-then-is_hourly
returns-then-is_hourly c = all-hours _ (sym c.is_hourly.ensures ∙ c.if-is_hourly.true)

pub returns : goal.returns
returns c = all-days _ (sym c.is_hourly.ensures ∙ c.if-is_hourly.false)
