-- `calendar::dates::Date::first` meets its contract: the definition computes to the constant.
use mathlib.Core.Path.{refl}
use Rattle.calendar.proofs.Inverse.{first-date}
use Rattle.calendar.proofs.dates.Date.first.Goals as goal

pub returns : goal.returns
returns c = (refl, first-date)
