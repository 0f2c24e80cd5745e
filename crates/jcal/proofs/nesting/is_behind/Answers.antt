-- `jcal::nesting::is_behind` meets its contract.
use Rattle.jcal.specs.Order.{ends_here}
use Rattle.jcal.specs.Events.{line_told}
use Rattle.jcal.proofs.nesting.is_behind.Goals as goal

pub returns-in-Opens : goal.returns-in-Opens
returns-in-Opens c = unfold line_told ends_here in λ s i. rw c.in-Opens.is

pub returns-in-Closes : goal.returns-in-Closes
returns-in-Closes c = unfold line_told ends_here in λ s i. rw c.in-Closes.is

pub returns-in-Plain : goal.returns-in-Plain
returns-in-Plain c = unfold line_told ends_here in λ s i. rw c.in-Plain.is

pub returns-in-Broken : goal.returns-in-Broken
returns-in-Broken c = unfold line_told ends_here in λ s i. rw c.in-Broken.is
