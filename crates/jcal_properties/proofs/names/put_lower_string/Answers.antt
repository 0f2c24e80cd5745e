-- `jcal_properties::names::put_lower_string` meets its contract.
use native.Mathlib.Omega.{arith}
use Rattle.octets.proofs.Pen.{leads-on, leads-last, then}
use Rattle.octets.specs.Classes.{lower_octet, lower}
use Rattle.json_text.specs.Print.{print_string}
use Rattle.jcal_texts.proofs.Strings.{mapped-on, mapped_end}
use Rattle.jcal_properties.proofs.names.put_lower_string.Goals as goal

pub loop-c-preserved : goal.loop-c-preserved
unfolding lower
loop-c-preserved c = (omega arith, leads-on c.loop-c.invariant.1 (rw c.lower_octet.ensures at c.put_escaped-to.ensures) (mapped-on lower_octet c.args.name.now c.loop-c.c-index c.loop-c-test.true))

pub returns : goal.returns
unfolding print_string lower
returns c = then c.put-to.ensures (leads-last c.loop-c.invariant.1 c.put.ensures (mapped_end lower_octet c.args.name.now c.loop-c.c-index c.loop-c-test.false))
