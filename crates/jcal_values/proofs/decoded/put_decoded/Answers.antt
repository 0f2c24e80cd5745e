-- `jcal_values::decoded::put_decoded` meets its contract.
use native.Mathlib.Omega.{arith}
use Rattle.octets.proofs.Pen.{front_same}
use Rattle.octets.proofs.Limits.{most-text}
use Rattle.octets.specs.Optional.{then?}
use Rattle.jcal_values.proofs.DecodedTexts.{text-fits, text-long}
use Rattle.jcal_values.proofs.decoded.put_decoded.Goals as goal

pub returns-then-raw-gt-ROOM_FOR_LINES : goal.returns-then-raw-gt-ROOM_FOR_LINES
unfolding then?
returns-then-raw-gt-ROOM_FOR_LINES c = (rw (text-long c.args.raw.now (omega (arith, most-text))), front_same)

pub put_decoded_in-requires : goal.put_decoded_in-requires
put_decoded_in-requires c = omega (arith, most-text)

pub returns : goal.returns
returns c = rw (text-fits c.args.raw.now (omega (arith, most-text))) c.put_decoded_in.ensures
