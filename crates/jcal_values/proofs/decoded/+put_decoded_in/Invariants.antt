-- `jcal_values::decoded::put_decoded_in` meets its contract. The measure is what the memory lacks.
use Prim.Native.Nat.{◌-◌}
use lib.ListN.{length}
use Rattle.jcal_values.proofs.decoded.+put_decoded_in.Given as goal

abbrev pub decreases-put_decoded_in : goal.decreases-put_decoded_in
decreases-put_decoded_in l = length l.raw.now - length l.work.now
