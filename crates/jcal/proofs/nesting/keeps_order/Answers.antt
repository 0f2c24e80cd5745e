-- `jcal::nesting::keeps_order` meets its contract.
use mathlib.Core.Path.{sym}
use Rattle.octets.proofs.Cases.{and-true-right}
use Rattle.jcal.specs.Order.{may_stand}
use Rattle.jcal.specs.Events.{line_told}
use Rattle.jcal.proofs.nesting.keeps_order.Goals as goal

pub returns-in-Opens : goal.returns-in-Opens
returns-in-Opens c = unfold line_told may_stand in λ s i. rw c.in-Opens.is (sym (and-true-right c.args.in_order))

pub returns-in-Closes : goal.returns-in-Closes
returns-in-Closes c = unfold line_told may_stand in λ s i. rw c.in-Closes.is (sym (and-true-right c.args.in_order))

pub returns-then-in_order : goal.returns-then-in_order
returns-then-in_order c = unfold line_told may_stand in λ s i. rw (c.in-Plain.is, c.if-in_order.true)

pub returns-in-Broken : goal.returns-in-Broken
returns-in-Broken c = unfold line_told may_stand in λ s i. rw c.in-Broken.is (sym (and-true-right c.args.in_order))
