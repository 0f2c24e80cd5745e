-- `jcal::components::outermost_name` meets its contract.
use Rattle.jcal.proofs.Stages.{first-not}
use Rattle.jcal.proofs.LineKinds.{told-as}
use Rattle.jcal.proofs.components.outermost_name.Goals as goal

pub kind_at-requires : goal.kind_at-requires
kind_at-requires c = c.requires

pub returns-in-Opens : goal.returns-in-Opens
returns-in-Opens c = told-as c.kind_at.ensures c.in-Opens.is

pub returns-in_default : goal.returns-in_default
returns-in_default c = first-not _ _ c.requires c.args.calendar.paired _ c.in_default.not-Opens c.kind_at.ensures
