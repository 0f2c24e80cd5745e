-- `octets::put_each` meets its contract.
use mathlib.Core.Path.{refl}
use native.Mathlib.Omega.{arith}
use Rattle.octets.proofs.Pen.{leads-start, leads-on, leads-end}
use Rattle.octets.proofs.Positions.{here, ended}
use Rattle.octets.proofs.writing.put_each.Goals as goal

pub loop-c-init : goal.loop-c-init
loop-c-init c = (refl, leads-start)

pub loop-c-preserved : goal.loop-c-preserved
loop-c-preserved c = (omega arith, leads-on c.loop-c.invariant.1 c.put-to.ensures (rw (here _ _ c.loop-c-test.true, c.turn.ensures)))

pub returns : goal.returns
returns c = leads-end c.loop-c.invariant.1 (rw (ended _ _ c.loop-c-test.false))
