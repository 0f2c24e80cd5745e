-- `jcal_values::decoded::put_decoded_in` meets its contract. The measure is what the memory lacks.
use native.Mathlib.Omega.{arith}
use borrow.Author.Tests.{le-leb}
use Rattle.octets.specs.Optional.{then?}
use Rattle.octets.proofs.Limits.{most-text}
use Rattle.octets.proofs.Pen.{front_same}
use Rattle.octets.proofs.Optional.{none_is}
use Rattle.jcal_values.proofs.decoded.+put_decoded_in.Goals as goal

pub put_decoded_in-requires : goal.put_decoded_in-requires
put_decoded_in-requires t c = (omega (arith, most-text, c.decreases, c.requires), c.requires)

pub returns-then-work-raw : goal.returns-then-work-raw
returns-then-work-raw t c = c.put_decoded_in.ensures

pub slice_bounds-put_tested-end : goal.slice_bounds-put_tested-end
slice_bounds-put_tested-end t c = let d = c.in_ok-n.ensures in omega (arith, d.1.0)

pub returns : goal.returns
unfolding then?
returns t c = let d = c.in_ok-n.ensures in rw d.1.1 c.put_tested.ensures

pub returns-in_err-n : goal.returns-in_err-n
unfolding then?
returns-in_err-n t c = rw c.from_residual.ensures (rw (none_is _ (rw (le-leb _ _ c.if-work-raw.false) at c.in_err-n.ensures)), front_same)
