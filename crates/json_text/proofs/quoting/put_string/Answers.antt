-- `json_text::quoting::put_string` meets its contract.
use mathlib.Core.Path.{refl}
use native.Mathlib.Omega.{arith}
use Rattle.octets.specs.Groups.{as_is_octet}
use Rattle.octets.proofs.Runs.{run-found}
use Rattle.octets.proofs.Pen as pens
use Rattle.json_text.specs.Print.{print_string}
use Rattle.json_text.proofs.Quotes.{quoted-run, quoted-octet, quoted-end}
use Rattle.json_text.proofs.quoting.put_string.Goals as goal

pub slice_bounds-put_all-end : goal.slice_bounds-put_all-end
slice_bounds-put_all-end c = let w = run-found {class = as_is_octet} c.args.s.now c.loop-i.i c.run_end-e.result c.loop-i.invariant.0 c.run_end-e.ensures in omega (arith, w.below)

pub loop-i-init : goal.loop-i-init
loop-i-init c = (omega arith, refl, pens.leads-start)

pub returns-then-e-s : goal.returns-then-e-s
unfolding print_string
returns-then-e-s c = pens.then c.put-p.ensures (pens.leads-last (pens.leads-on c.loop-i.invariant.2 c.put_all-q.ensures (quoted-run c.args.s.now (run-found {class = as_is_octet} c.args.s.now c.loop-i.i c.run_end-e.result c.loop-i.invariant.0 c.run_end-e.ensures))) c.put.ensures (quoted-end c.args.s.now c.run_end-e.result (omega (arith, c.if-e-s.true))))

pub loop-i-preserved : goal.loop-i-preserved
loop-i-preserved c = let w = run-found {class = as_is_octet} c.args.s.now c.loop-i.i c.run_end-e.result c.loop-i.invariant.0 c.run_end-e.ensures in (omega (arith, w.below), omega arith, pens.leads-on (pens.leads-on c.loop-i.invariant.2 c.put_all-q.ensures (quoted-run c.args.s.now (run-found {class = as_is_octet} c.args.s.now c.loop-i.i c.run_end-e.result c.loop-i.invariant.0 c.run_end-e.ensures))) c.put_escaped-p.ensures (quoted-octet c.args.s.now c.run_end-e.result (omega arith)))

pub returns : goal.returns
unfolding print_string
returns c = pens.then c.put-p.ensures (pens.leads-last c.loop-i.invariant.2 c.put-2.ensures (quoted-end c.args.s.now _ c.loop-i-test.false))
