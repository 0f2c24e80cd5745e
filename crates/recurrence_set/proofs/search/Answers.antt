-- `recurrence_set::search` meets its contract: by the frequency.
use native.Mathlib.Omega.{arith}
use Rattle.recurrence_set.proofs.Due.{past}
use Rattle.recurrence_set.proofs.Starting.{by-nothing, by-every, by-weekly, by-monthly}
use Rattle.recurrence_set.proofs.search.Goals as goal

pub returns-then-places-from : goal.returns-then-places-from
returns-then-places-from c = λ h l. past _ _ _ (let i = h.interval in omega arith)

pub returns-in-Weekly : goal.returns-in-Weekly
returns-in-Weekly c = λ h l. by-weekly _ _ _ c.in-Weekly.is c.weekly_from.ensures

pub returns-in-Monthly : goal.returns-in-Monthly
returns-in-Monthly c = λ h l. by-monthly _ _ (omega arith) h l c.in-Monthly.is _ c.monthly_from.ensures

pub returns-in-Secondly : goal.returns-in-Secondly
returns-in-Secondly c = λ h l. by-nothing _ _ (omega arith) c.in-Secondly.is

pub returns-in-Hourly : goal.returns-in-Hourly
returns-in-Hourly c = λ h l. by-every _ _ _ c.in-Hourly.is c.every_from.ensures
