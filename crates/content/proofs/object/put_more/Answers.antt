-- `content::object::put_more` meets its contract.
use native.Mathlib.Omega.{arith}
use mathlib.Core.Path.{refl, sym}
use Prim.Native.Nat.{◌+◌}
use lib.ListN.{length-drop}
use lib.Seq.{length-take-le}
use Rattle.octets.proofs.Positions.{from}
use Prim.Native.Char.{code}
use Rattle.octets.proofs.Pen.{leads-start, leads-on, leads-last, then}
use Rattle.content.proofs.Objects.{more-last, more-on}
use Rattle.content.proofs.Separators.{one_of}
use Rattle.content.proofs.Scanning.{bare_high}
use Rattle.content.proofs.object.put_more.Goals as goal

pub loop-rest-init : goal.loop-rest-init
loop-rest-init c = (omega arith, refl, leads-start)

pub slice_bounds-put_value-end : goal.slice_bounds-put_value-end
slice_bounds-put_value-end c = sym (length-take-le _ _ (bare_high (one_of (code ",") (code ",")) c.loop-rest.rest.now 0 _ c.next_bare-e.ensures (omega arith)))

pub returns-then-e-rest : goal.returns-then-e-rest
returns-then-e-rest c = leads-last c.loop-rest.invariant.2 (then (then c.put-a.ensures c.put_value-b.ensures) c.put.ensures) (more-last c.loop-rest.rest.now c.next_bare-e.result c.next_bare-e.ensures c.if-e-rest.true)

pub loop-rest-preserved : goal.loop-rest-preserved
loop-rest-preserved c = (rw (from c.loop-rest.rest.now (c.next_bare-e.result + 1)) (omega (arith, length-drop (c.next_bare-e.result + 1) c.loop-rest.rest.now)), omega arith, leads-on c.loop-rest.invariant.2 (then c.put-a.ensures c.put_value-b.ensures) (more-on c.loop-rest.rest.now c.next_bare-e.result c.next_bare-e.ensures c.if-e-rest.false))
