-- `octets::is_as_is` meets its contract.
use native.Mathlib.Omega.{arith}
use Rattle.std.proofs.lemmas.Grind.{common_steps}
use Rattle.octets.specs.Groups.{as_is_octet}
use Rattle.octets.proofs.names.is_as_is.Goals as goal

pub returns : goal.returns
unfolding as_is_octet
returns c = grind (arith, common_steps)
