-- `jcal::components::put_comma` meets its contract.
use Rattle.octets.proofs.Pen.{nothing}
use Rattle.jcal.specs.Components.{leading_comma}
use Rattle.jcal.proofs.components.put_comma.Goals as goal

pub returns-then-first : goal.returns-then-first
returns-then-first c = unfold leading_comma in rw c.if-first.true nothing

pub returns : goal.returns
returns c = unfold leading_comma in rw c.if-first.false c.put.ensures
