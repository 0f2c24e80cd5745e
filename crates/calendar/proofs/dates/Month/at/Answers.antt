-- `calendar::dates::Month::at` meets its contract: the first of a month that can be named is a day.
use mathlib.Core.Path.{sym, ap, ◌∙◌}
use Rattle.octets.specs.Optional.{said}
use Rattle.calendar.proofs.Months.{month-past, month-lost, month-found}
use Rattle.calendar.proofs.dates.Month.at.Goals as goal

pub returns-then-n : goal.returns-then-n
returns-then-n c = month-past _ c.if-n.true

pub returns-in_default : goal.returns-in_default
returns-in_default c = month-lost _ c.if-n.false (ap said (sym c.in_default.is) ∙ c.day_number.ensures)

pub returns : goal.returns
returns c = month-found _ c.if-n.false _ _ (ap said (sym c.in-Some.is) ∙ c.day_number.ensures)
    c.month_days.ensures
