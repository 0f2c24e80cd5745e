-- `jcal::nesting::at_end` meets its contract.
use Rattle.conversion_theory.specs.Structure.{verdict}
use Rattle.jcal.specs.Nesting.{inner, nest_of}
use Rattle.jcal.proofs.nesting.at_end.Goals as goal

pub returns-in-Unbegun : goal.returns-in-Unbegun
returns-in-Unbegun c = unfold nest_of verdict in λ s xs. rw c.in-Unbegun.is

pub returns-in-Within : goal.returns-in-Within
returns-in-Within c = unfold nest_of inner verdict in λ s xs. rw c.in-Within.is

pub returns-in-Complete : goal.returns-in-Complete
returns-in-Complete c = unfold nest_of verdict in λ s xs. rw c.in-Complete.is
