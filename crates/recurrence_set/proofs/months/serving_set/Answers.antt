-- `recurrence_set::months::serving_set` meets its contract.
use Rattle.recurrence_set.proofs.DaySets.{by-day, by-month-day, by-start}
use Rattle.recurrence_set.proofs.months.serving_set.Goals as goal

pub returns-then-rule : goal.returns-then-rule
returns-then-rule c = by-day _ _ _ _ _ c.if-rule.true c.by_day_set.ensures

pub returns-then-rule-2 : goal.returns-then-rule-2
returns-then-rule-2 c = by-month-day _ _ _ _ _ c.if-rule.false c.if-rule-2.true c.by_month_day_set.ensures

pub returns : goal.returns
returns c = by-start _ _ _ _ _ c.if-rule.false c.if-rule-2.false c.args.month.few c.one_day_set.ensures
