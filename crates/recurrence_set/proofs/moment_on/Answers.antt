-- `recurrence_set::moment_on` meets its contract.
use Rattle.recurrence_set.proofs.Places.{date-said, never-past}
use Rattle.recurrence_set.specs.Searches.{moment_on}
use Rattle.octets.specs.Optional.{said}
use mathlib.Core.Path.{sym, ap, ◌∙◌}
use Rattle.recurrence_set.proofs.moment_on.Goals as goal

pub returns-in_default : goal.returns-in_default
returns-in_default c = never-past _ (ap said (sym c.in_default.is) ∙ c.from_day_number.ensures)

pub returns : goal.returns
unfolding moment_on
returns c = λ h. rw (date-said _ _ (ap said (sym c.in-Some.is) ∙ c.from_day_number.ensures))
