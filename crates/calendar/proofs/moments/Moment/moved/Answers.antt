-- `calendar::moments::Moment::moved` meets its contract: hours from the first day on, and back to a date.
use native.Mathlib.Omega.{arith}
use mathlib.Core.Path.{sym, ap, ◌∙◌}
use Rattle.octets.specs.Optional.{said}
use Rattle.calendar.proofs.Hours.{no-time, no-day, within, past, never-past, arrives}
use Rattle.calendar.proofs.moments.Moment.moved.Goals as goal

pub returns-then-not-is_clock : goal.returns-then-not-is_clock
returns-then-not-is_clock c = no-time _ _ (sym c.is_clock.ensures ∙ c.if-not-is_clock.true)

pub returns-in_default : goal.returns-in_default
returns-in_default c = no-day _ _ (ap said (sym c.in_default.is) ∙ c.day_number.ensures)

pub overflow_sub-here : goal.overflow_sub-here
overflow_sub-here c = let w = within c.args.self 0 c.in-Some.n (sym c.is_clock.ensures ∙ c.if-not-is_clock.false) (ap said (sym c.in-Some.is) ∙ c.day_number.ensures) in
    omega arith

pub returns-then-here-hours : goal.returns-then-here-hours
returns-then-here-hours c = past _ _ _ (sym c.is_clock.ensures ∙ c.if-not-is_clock.false) (ap said (sym c.in-Some.is) ∙ c.day_number.ensures) (omega arith)

pub returns-in_default-from_day_number : goal.returns-in_default-from_day_number
returns-in_default-from_day_number c = absurd
    (never-past c.args.self c.args.hours _ (sym c.is_clock.ensures ∙ c.if-not-is_clock.false) (ap said (sym c.in-Some.is) ∙ c.day_number.ensures) (omega arith)
    (ap said (sym c.in_default-from_day_number.is) ∙ c.from_day_number.ensures))

pub returns : goal.returns
returns c = arrives _ _ _ (sym c.is_clock.ensures ∙ c.if-not-is_clock.false) (ap said (sym c.in-Some.is) ∙ c.day_number.ensures) (omega arith) _
    (ap said (sym c.in-Some-from_day_number.is) ∙ c.from_day_number.ensures)
