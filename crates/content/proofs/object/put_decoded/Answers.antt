-- `content::object::put_decoded` meets its contract.
use native.Mathlib.Omega.{arith}
use mathlib.Core.Path.{refl}
use Rattle.octets.specs.Groups.{param_as_is}
use Rattle.octets.specs.Search.{ClassRun}
use Rattle.octets.proofs.Runs.{run-found}
use Rattle.octets.proofs.Pen.{leads-start, leads-on, leads-last, then}
use Rattle.content.proofs.Decoding.{value-start, value_none, value-last, value_on, takes-some, takes-few}
use Rattle.content.proofs.object.put_decoded.Tie as tie
use Rattle.content.proofs.object.put_decoded.Lts as lts
use Rattle.content.proofs.object.put_decoded.Reads as reads
use Rattle.content.proofs.object.put_decoded.Goals as goal

-- the octets that stay as they are
passed : (c : lts.After-run_end tie.the-claims reads.Pre reads.Post goal.the-invariant-loop-i goal.the-decreases-loop-i) → ClassRun param_as_is c.args.v.now c.loop-i.i c.run_end-e.result
passed c = run-found _ _ _ (omega arith) c.run_end-e.ensures

pub loop-i-init : goal.loop-i-init
loop-i-init c = (refl, rw (value-start c.args.v.now 0) leads-start)

pub slice_bounds-put_all-end : goal.slice_bounds-put_all-end
slice_bounds-put_all-end c = (passed c.before.before).below

pub returns-then-e-v : goal.returns-then-e-v
returns-then-e-v c = leads-last c.loop-i.invariant.1 (then c.put_all-a.ensures c.put.ensures) (value-last c.args.v.now c.loop-i.i c.run_end-e.result (passed c.before.before.before.before.before.before.before.before.before.before.before) c.if-e-v.true)

pub overflow_add-i : goal.overflow_add-i
overflow_add-i c = omega (arith, takes-few _ _ c.taken.result c.taken.ensures)

pub loop-i-smaller : goal.loop-i-smaller
loop-i-smaller c = omega (arith, takes-some _ _ c.taken.result c.taken.ensures, (passed c.before.before.before.before.before.before.before.before.before.before.before.before.before.before.before).above)

pub loop-i-preserved : goal.loop-i-preserved
loop-i-preserved c = (omega arith, leads-on c.loop-i.invariant.1 (then c.put_all-a.ensures c.put_escaped-to.ensures) (value_on c.args.v.now c.loop-i.i c.run_end-e.result (passed c.before.before.before.before.before.before.before.before.before.before.before.before.before.before.before) c.if-e-v.false c.peek-d.result c.stands_for.result c.taken.result c.peek-d.ensures c.stands_for.ensures c.taken.ensures))

pub returns : goal.returns
returns c = leads-last c.loop-i.invariant.1 c.put-2.ensures (value_none c.args.v.now c.loop-i.i c.loop-i-test.false)
