-- `jcal_values::recur::put_pieces` meets its contract: what is written is followed by the pieces ahead.
use mathlib.Core.Path.{refl}
use native.Mathlib.Omega.{arith}
use lib.ListN.{length-take, length-drop}
use Rattle.octets.proofs.Pen.{then, leads-start, leads-on, leads-last}
use Rattle.calendar.proofs.Pieces.{scanned-le, scanned-in}
use Rattle.jcal_values.proofs.PiecesShown.{list-more, list-last}
use Rattle.jcal_values.proofs.recur.put_pieces.Goals as goal

pub loop-at-init : goal.loop-at-init
loop-at-init g c = (omega arith, refl, leads-start)

pub slice_bounds-put-end : goal.slice_bounds-put-end
slice_bounds-put-end g c = let e = scanned-le c.args.sep c.args.s.now c.loop-at.i c.find-e.result c.find-e.ensures in
    rw (length-take, length-drop) (omega arith)

pub returns-then-e-rest : goal.returns-then-e-rest
returns-then-e-rest g c = leads-last c.loop-at.invariant.2 c.put-p.ensures (list-last c.args.sep c.args.s.now c.loop-at.i c.find-e.result c.find-e.ensures _ c.if-e-rest.true)

pub overflow_add-i : goal.overflow_add-i
overflow_add-i g c = omega (arith, scanned-in c.args.sep c.args.s.now c.loop-at.i c.find-e.result c.find-e.ensures c.if-e-rest.false)

pub overflow_add-i-in-loop-at : goal.overflow_add-i-in-loop-at
overflow_add-i-in-loop-at g c = omega (arith, scanned-in c.args.sep c.args.s.now c.loop-at.i c.find-e.result c.find-e.ensures c.if-e-rest.false)

pub loop-at-smaller : goal.loop-at-smaller
loop-at-smaller g c = omega (arith, scanned-in c.args.sep c.args.s.now c.loop-at.i c.find-e.result c.find-e.ensures c.if-e-rest.false)

pub loop-at-preserved : goal.loop-at-preserved
loop-at-preserved g c = let e = scanned-in c.args.sep c.args.s.now c.loop-at.i c.find-e.result c.find-e.ensures c.if-e-rest.false in
    let m = list-more c.args.sep c.args.s.now c.loop-at.i c.find-e.result c.find-e.ensures (g.P.Piece.shown c.args.piece.now) c.if-e-rest.false in
    (omega arith, omega arith, leads-on c.loop-at.invariant.2 (then c.put-p.ensures c.put-p-in-loop-at.ensures) m)
