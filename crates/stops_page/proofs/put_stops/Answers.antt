-- `stops_page::put_stops` meets its contract: what is written is followed by the stops ahead.
use mathlib.Core.Path.{◌≡◌, refl}
use mathlib.Core.Logic.{inl}
use native.Mathlib.Omega.{arith}
use Rattle.octets.proofs.Pen.{leads-start, leads-on, leads-same, leads-end}
use Rattle.stops_page.proofs.StopTexts.{all-fit, all-shown, on-fit, on-shown, end-shown}
use Rattle.stops_page.proofs.put_stops.Goals as goal

pub loop-i-init : goal.loop-i-init
loop-i-init c =
    let s = c.into_iter-i-iterator.result in
    let e : s.iter ≡ c.args.run = rw c.into_iter-i-iterator.ensures.into_iter_gives c.enumerate-i-items.ensures.source in
    let z : s.count ≡ 0 = rw c.into_iter-i-iterator.ensures.into_iter_gives c.enumerate-i-items.ensures.count in
    let f = all-fit s.iter c.args.run s.count e z (omega arith) in
    ((rw e c.requires, tt, inl f), tt, f, refl, leads-same leads-start (all-shown s.iter c.args.run s.count e z))

pub loop-i-preserved : goal.loop-i-preserved
loop-i-preserved c =
    let w = c.in-Some.ensures.steps in
    let f = on-fit _ _ _ _ _ _ w.0 w.1 w.2 c.loop-i.invariant.2 in
    ((c.in-Some.ensures.goes.keeps.0, tt, inl f), tt, f, omega arith, leads-on c.loop-i.invariant.4 c.put_stop-to.ensures (on-shown _ _ _ _ _ _ w.0 w.1 w.2))

pub returns : goal.returns
returns c = leads-end c.loop-i.invariant.4 (end-shown _ _ c.in-None.ensures.steps.0.0)
