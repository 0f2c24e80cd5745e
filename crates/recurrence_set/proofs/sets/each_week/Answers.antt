-- `recurrence_set::sets::each_week` meets its contract.
use native.Mathlib.Omega.{arith}
use Rattle.recurrence_set.proofs.FiveWeeks.{each-week}
use Rattle.recurrence_set.proofs.sets.each_week.Goals as goal

pub overflow_mul-result : goal.overflow_mul-result
overflow_mul-result c = omega arith

pub returns : goal.returns
returns c = record { days = each-week c.args.set }
