-- `jcal::nesting::after_line` meets its contract.
use Rattle.jcal.specs.Nesting.{nest_of}
use Rattle.jcal.proofs.OpenComponents.{complete-on, few-as}
use Rattle.jcal.proofs.nesting.after_line.Goals as goal

pub after_inner-requires : goal.after_inner-requires
after_inner-requires c = few-as c.requires c.in-Within.is

pub returns-in-Unbegun : goal.returns-in-Unbegun
returns-in-Unbegun c = unfold nest_of in rw c.in-Unbegun.is c.after_first.ensures

pub returns-in-Within : goal.returns-in-Within
returns-in-Within c = unfold nest_of in rw c.in-Within.is c.after_inner.ensures

pub returns-in-Complete : goal.returns-in-Complete
returns-in-Complete c = rw c.in-Complete.is (complete-on c.args.line.buf.now c.args.names.now _)
