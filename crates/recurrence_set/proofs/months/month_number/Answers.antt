-- `recurrence_set::months::month_number` meets its contract.
use Rattle.calendar.specs.Gregorian.{month_number}
use native.Mathlib.Omega.{arith}
use Rattle.recurrence_set.proofs.months.month_number.Goals as goal

pub returns : goal.returns
returns c = unfold month_number in omega (arith, c.saturating_sub.ensures)
