-- `recurrence_set::seconds_of` meets its contract.
use Rattle.recurrence_set.proofs.Places.{never-time, never-day, seconds-are, seconds-few}
use Rattle.octets.specs.Optional.{said}
use mathlib.Core.Path.{sym, ap, ◌∙◌}
use native.Mathlib.Omega.{arith}
use Rattle.recurrence_set.proofs.seconds_of.Goals as goal

pub returns-then-not-is_clock : goal.returns-then-not-is_clock
returns-then-not-is_clock c = (never-time _ (sym c.is_clock.ensures ∙ c.if-not-is_clock.true), omega arith)

pub returns-in_default : goal.returns-in_default
returns-in_default c = (never-day _ (ap said (sym c.in_default.is) ∙ c.day_number.ensures), omega arith)

pub returns : goal.returns
returns c = (λ h. seconds-are _ _ (ap said (sym c.in-Some.is) ∙ c.day_number.ensures), seconds-few c.args.m _ (ap said (sym c.in-Some.is) ∙ c.day_number.ensures) (sym c.is_clock.ensures ∙ c.if-not-is_clock.false))
