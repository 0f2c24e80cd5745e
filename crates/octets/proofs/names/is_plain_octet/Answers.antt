-- `octets::is_plain_octet` meets its contract.
use native.Mathlib.Omega.{arith}
use Rattle.std.proofs.lemmas.Grind.{common_steps}
use Rattle.octets.specs.Classes.{is_control, plain_octet}
use Rattle.octets.proofs.names.is_plain_octet.Goals as goal

pub returns-then-c-le31 : goal.returns-then-c-le31
unfolding plain_octet is_control
returns-then-c-le31 c = grind (arith, common_steps)

pub returns-else-c-le31 : goal.returns-else-c-le31
unfolding plain_octet is_control
returns-else-c-le31 c = grind (arith, common_steps)
