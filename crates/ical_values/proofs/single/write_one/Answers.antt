-- `ical_values::single::write_one` meets its contract.
use Rattle.values.specs.Coded.{sort_said}
use Rattle.ical_values.proofs.single.write_one.Goals as goal

pub returns-in-Boolean : goal.returns-in-Boolean
unfolding sort_said
returns-in-Boolean c = rw c.in-Boolean.is c.boolean_at.ensures

pub returns-in-Period : goal.returns-in-Period
unfolding sort_said
returns-in-Period c = rw c.in-Period.is c.period_at.ensures
