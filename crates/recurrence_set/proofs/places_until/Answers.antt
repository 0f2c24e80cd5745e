-- `recurrence_set::places_until` meets its contract.
use Rattle.recurrence_set.proofs.Places.{hour-until, day-until}
use mathlib.Core.Path.{sym, ◌∙◌}
use Rattle.recurrence_set.proofs.places_until.Goals as goal

pub returns-then-is_hourly : goal.returns-then-is_hourly
returns-then-is_hourly c = λ h. c.places_up_to.ensures ∙ hour-until _ _ _ _ (c.seconds_of-u.ensures.0 h) (sym c.is_hourly.ensures ∙ c.if-is_hourly.true)

pub returns : goal.returns
returns c = λ h. c.places_up_to-2.ensures ∙ day-until _ _ _ _ (c.seconds_of-u.ensures.0 h) (sym c.is_hourly.ensures ∙ c.if-is_hourly.false)
