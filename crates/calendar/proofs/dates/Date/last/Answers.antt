-- `calendar::dates::Date::last` meets its contract: the formula for day numbers gives the constant its number.
use mathlib.Core.Path.{refl}
use Rattle.calendar.proofs.Inverse.{last-date}
use Rattle.calendar.proofs.dates.Date.last.Goals as goal

pub returns : goal.returns
returns c = (refl, last-date)
