-- `calendar::dates::Date::from_day_number` meets its contract: the formula gives the definition's date.
use mathlib.Core.Path.{refl, sym, ap}
use mathlib.Core.Option.{some}
use borrow.Author.Tests.{lt-ltb, le-ltb}
use Rattle.octets.specs.Optional.{when}
use Rattle.calendar.proofs.DateFormula.{found}
use Rattle.calendar.proofs.Inverse.{day-count, formula-date}
use Rattle.calendar.proofs.dates.Date.from_day_number.Goals as goal

pub returns-then-n-ge-DAY_COUNT : goal.returns-then-n-ge-DAY_COUNT
returns-then-n-ge-DAY_COUNT c = unfold when in rw (day-count, le-ltb _ _ c.if-n-ge-DAY_COUNT.true)

pub returns : goal.returns
unfolding when
returns c = rw (day-count, lt-ltb _ _ c.if-n-ge-DAY_COUNT.false)
    (ap some (sym (formula-date c.args.n _ _ _ (found c.args.n _ _ _ _ _ c.if-n-ge-DAY_COUNT.false refl refl refl refl refl))))
