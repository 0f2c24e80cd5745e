-- `stops_page::put_list` meets its contract: what is written is followed by the stops ahead.
use mathlib.Core.Path.{refl}
use native.Mathlib.Omega.{arith}
use Rattle.octets.proofs.Pen.{leads-start, leads-on, leads-end}
use Rattle.stops_page.proofs.StopTexts.{stops-on, stops_end}
use Rattle.stops_page.proofs.put_list.Goals as goal

pub loop-i-init : goal.loop-i-init
loop-i-init c = (refl, leads-start)

pub loop-i-preserved : goal.loop-i-preserved
loop-i-preserved c = (omega arith, leads-on c.loop-i.invariant.1 c.put_stop-to.ensures (stops-on _ c.args.list.now c.loop-i.i c.loop-i-test.true))

pub returns : goal.returns
returns c = leads-end c.loop-i.invariant.1 (stops_end c.args.list.now _ _ c.loop-i-test.false)
