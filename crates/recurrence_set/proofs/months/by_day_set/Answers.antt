-- `recurrence_set::months::by_day_set` meets its contract.
use Rattle.recurrence_set.proofs.DaySets.{by-days}
use Rattle.recurrence_set.proofs.months.by_day_set.Goals as goal

pub returns : goal.returns
returns c = by-days _ _ _ c.args.month.few c.args.month.week _ _ _ c.each_week.ensures c.turned-front.ensures c.turned-back.ensures
