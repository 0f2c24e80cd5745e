-- `recurrence_set::moment_at` meets its contract.
use Rattle.recurrence_set.proofs.Places.{hour-day, hour-moment, day-day, day-moment}
use mathlib.Core.Path.{sym, ◌∙◌}
use Rattle.recurrence_set.proofs.moment_at.Goals as goal

pub returns-then-is_hourly : goal.returns-then-is_hourly
returns-then-is_hourly c = λ h. c.moment_on.ensures (hour-day c.args.series.rule.frequency c.args.series.start _ (sym c.is_hourly.ensures ∙ c.if-is_hourly.true) h) ∙ hour-moment _ _ _ (sym c.is_hourly.ensures ∙ c.if-is_hourly.true)

pub returns : goal.returns
returns c = λ h. c.moment_on-2.ensures (day-day c.args.series.rule.frequency c.args.series.start _ (sym c.is_hourly.ensures ∙ c.if-is_hourly.false) h) ∙ day-moment _ _ _ (sym c.is_hourly.ensures ∙ c.if-is_hourly.false)
