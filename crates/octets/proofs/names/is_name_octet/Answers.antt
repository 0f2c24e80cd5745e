-- `octets::is_name_octet` meets its contract.
use native.Mathlib.Omega.{arith}
use Rattle.std.proofs.lemmas.Grind.{common_steps}
use Rattle.octets.specs.Classes.{is_letter, name_octet, lower_name_octet}
use Rattle.octets.proofs.names.is_name_octet.Goals as goal

pub returns-then-is_upper : goal.returns-then-is_upper
unfolding name_octet lower_name_octet is_letter
returns-then-is_upper c = grind (arith, common_steps)

pub returns-else-is_upper : goal.returns-else-is_upper
unfolding name_octet lower_name_octet is_letter
returns-else-is_upper c = grind (arith, common_steps)
