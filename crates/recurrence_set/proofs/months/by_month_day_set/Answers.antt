-- `recurrence_set::months::by_month_day_set` meets its contract.
use Rattle.recurrence_set.proofs.DaySets.{month-days}
use Rattle.recurrence_set.proofs.months.by_month_day_set.Goals as goal

pub returns : goal.returns
returns c = month-days _ _ c.args.month.few
