-- `jcal::components::end_properties` meets its contract.
use Rattle.jcal.proofs.components.end_properties.Goals as goal

pub returns-then-calendar : goal.returns-then-calendar
returns-then-calendar c = record { finds = c.requires c.if-calendar.true; wrote = c.put_all-to.ensures }

pub returns : goal.returns
returns c = record { finds = c.next_at.ensures.finds; wrote = rw c.next_at.ensures.place c.put_all-to.ensures }
