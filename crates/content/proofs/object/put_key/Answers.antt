-- `content::object::put_key` meets its contract.
use native.Mathlib.Omega.{arith}
use mathlib.Core.Path.{sym}
use Rattle.octets.proofs.Pen.{leads-on, leads-last, then, as-text}
use Rattle.content.proofs.Objects.{key-on, key-end, key-text}
use Rattle.content.proofs.object.put_key.Goals as goal

pub loop-c-preserved : goal.loop-c-preserved
loop-c-preserved c = (omega arith, leads-on c.loop-c.invariant.1 (rw c.lower_octet.ensures at c.put_escaped-to.ensures) (key-on c.args.name.now c.loop-c.c-index c.loop-c-test.true))

pub returns : goal.returns
returns c = as-text (then c.put-to.ensures (leads-last c.loop-c.invariant.1 c.put_all.ensures (key-end c.args.name.now c.loop-c.c-index c.loop-c-test.false))) (sym (key-text c.args.name.now))
