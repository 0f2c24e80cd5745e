-- `calendar::dates::month_days` meets its contract: its formula gives each month's length, in both kinds of years.
use native.Mathlib.Omega.{arith}
use Rattle.calendar.proofs.Days.{leap-small, month-length, lack-small}
use Rattle.calendar.proofs.dates.month_days.Goals as goal

pub overflow_add-k : goal.overflow_add-k
overflow_add-k c = omega (arith, c.requires.1)

pub overflow_sub-result : goal.overflow_sub-result
overflow_sub-result c = omega (arith, leap-small c.args.y, c.leap_day.ensures)

pub overflow_mul-result : goal.overflow_mul-result
overflow_mul-result c = omega (arith, lack-small c.args.m c.leap_day.result)

pub overflow_sub-result-2 : goal.overflow_sub-result-2
overflow_sub-result-2 c = omega (arith, lack-small c.args.m c.leap_day.result)

pub returns : goal.returns
returns c = rw c.leap_day.ensures (month-length c.args.y c.args.m c.requires.0 c.requires.1)
