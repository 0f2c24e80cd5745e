-- `recurrence_set::weeks::week_set` meets its contract.
use Rattle.recurrence_set.proofs.WeekSearch.{serving-week, serves-named, serves-start}
use Rattle.recurrence_set.proofs.weeks.week_set.Goals as goal
use Rattle.recurrence_set.proofs.weeks.week_set.Goals.{then-by, else-by}

pub returns : goal.returns
returns c = serving-week _ _ _ c.if-by.set _ c.requires.1 c.each_week.ensures
    (elim c.if-by.branch [ then-by q ↦ serves-named _ _ _ q.set-is q.if-by.true | else-by q ↦ serves-start _ _ _ q.set-is q.if-by.false ])
