-- `calendar::dates::Date::day_number` meets its contract: a day's bounds keep the formula within 32 bits, and it agrees with the definition.
use native.Mathlib.Omega.{arith}
use mathlib.Core.Path.{◌≡◌, sym, ap, ◌∙◌}
use mathlib.Core.Bool.{true}
use mathlib.Core.Option.{some}
use Rattle.octets.specs.Optional.{when}
use Rattle.calendar.specs.Gregorian.{is_day, day_number}
use Rattle.calendar.proofs.Days.{Bounds, bounds, march_year, from_march, by_formula, counted}
use Rattle.calendar.proofs.dates.Date.day_number.Tie as tie
use Rattle.calendar.proofs.dates.Date.day_number.Lts as lts
use Rattle.calendar.proofs.dates.Date.day_number.Reads as reads
use Rattle.calendar.proofs.dates.Date.day_number.Goals as goal

-- what is known of the date once it is a day
is_one : (c : lts.Else1 tie.the-claims reads.Pre reads.Post) → let d = c.args.self in is_day d.year d.month d.day ≡ true
is_one c = sym c.is_day.ensures ∙ c.if-not-is_day.false

within : (c : lts.Else1 tie.the-claims reads.Pre reads.Post) → let d = c.args.self in Bounds d.year d.month d.day
within c = bounds _ _ _ (is_one c)

pub returns-then-not-is_day : goal.returns-then-not-is_day
returns-then-not-is_day c = unfold when in rw (sym c.is_day.ensures ∙ c.if-not-is_day.true)

pub overflow_add-s : goal.overflow_add-s
overflow_add-s c = omega (arith, within c.before)

pub overflow_sub-s : goal.overflow_sub-s
overflow_sub-s c = omega (arith, within c.before.before)

pub overflow_add-k : goal.overflow_add-k
overflow_add-k c = omega (arith, within c.before.before.before)

pub overflow_mul-result : goal.overflow_mul-result
overflow_mul-result c = omega (arith, within c.before.before.before)

pub overflow_add-result : goal.overflow_add-result
overflow_add-result c = omega (arith, within c.before.before.before)

pub overflow_add-result-2 : goal.overflow_add-result-2
overflow_add-result-2 c = omega (arith, within c.before.before.before)

pub overflow_add-result-4 : goal.overflow_add-result-4
overflow_add-result-4 c = omega (arith, within c.before.before.before)

pub overflow_add-result-5 : goal.overflow_add-result-5
overflow_add-result-5 c = omega (arith, within c.before.before.before.before)

pub overflow_sub-result-2 : goal.overflow_sub-result-2
unfolding march_year from_march by_formula
overflow_sub-result-2 c = let w = within c.before.before.before.before in
    (counted _ _ _ w.month-from w.month-to w.day-from).enough

pub returns : goal.returns
unfolding when day_number march_year from_march by_formula
returns c = let w = within c.before.before.before.before in
    rw (is_one c.before.before.before.before) (ap some (counted _ _ _ w.month-from w.month-to w.day-from).number)
