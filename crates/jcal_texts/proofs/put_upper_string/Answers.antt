-- `jcal_texts::put_upper_string` meets its contract.
use mathlib.Core.Path.{refl}
use native.Mathlib.Omega.{arith}
use Rattle.octets.proofs.Pen.{then, leads-start, leads-on, leads-last}
use Rattle.octets.specs.Classes.{upper_octet, upper}
use Rattle.json_text.specs.Print.{print_string}
use Rattle.jcal_texts.proofs.Strings.{mapped-on, mapped_end}
use Rattle.jcal_texts.proofs.put_upper_string.Goals as goal

pub loop-c-init : goal.loop-c-init
loop-c-init c = (refl, leads-start)

pub loop-c-preserved : goal.loop-c-preserved
unfolding upper
loop-c-preserved c = (omega arith, leads-on c.loop-c.invariant.1 c.put_escaped-p.ensures (rw c.upper_octet.ensures (mapped-on upper_octet _ _ c.loop-c-test.true)))

pub returns : goal.returns
unfolding print_string upper
returns c = then c.put-p.ensures (leads-last c.loop-c.invariant.1 c.put.ensures (mapped_end upper_octet _ _ c.loop-c-test.false))
