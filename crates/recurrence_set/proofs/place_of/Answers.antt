-- `recurrence_set::place_of` meets its contract.
use Rattle.recurrence_set.proofs.Places.{never-time, never-day, hour-place, day-place, hours-few}
use Rattle.octets.specs.Optional.{said}
use mathlib.Core.Path.{sym, ap, ◌∙◌}
use native.Mathlib.Omega.{arith}
use Rattle.recurrence_set.proofs.place_of.Goals as goal

pub returns-then-not-is_clock : goal.returns-then-not-is_clock
returns-then-not-is_clock c = never-time _ (sym c.is_clock.ensures ∙ c.if-not-is_clock.true)

pub returns-in_default : goal.returns-in_default
returns-in_default c = never-day _ (ap said (sym c.in_default.is) ∙ c.day_number.ensures)

pub overflow_mul-result : goal.overflow_mul-result
overflow_mul-result c = let w = hours-few c.args.m c.in-Some.n (ap said (sym c.in-Some.is) ∙ c.day_number.ensures) (sym c.is_clock.ensures ∙ c.if-not-is_clock.false) in omega arith

pub overflow_add-result : goal.overflow_add-result
overflow_add-result c = let w = hours-few c.args.m c.in-Some.n (ap said (sym c.in-Some.is) ∙ c.day_number.ensures) (sym c.is_clock.ensures ∙ c.if-not-is_clock.false) in omega arith

pub returns-then-is_hourly : goal.returns-then-is_hourly
returns-then-is_hourly c = λ h. hour-place _ _ (ap said (sym c.in-Some.is) ∙ c.day_number.ensures) _ (sym c.is_hourly.ensures ∙ c.if-is_hourly.true)

pub returns : goal.returns
returns c = λ h. day-place _ _ (ap said (sym c.in-Some.is) ∙ c.day_number.ensures) _ (sym c.is_hourly.ensures ∙ c.if-is_hourly.false)
