-- `octets::is_lower_name_octet` meets its contract.
use native.Mathlib.Omega.{arith}
use Rattle.std.proofs.lemmas.Grind.{common_steps}
use Rattle.octets.specs.Classes.{lower_name_octet}
use Rattle.octets.proofs.names.is_lower_name_octet.Goals as goal

pub returns-then-is_digit : goal.returns-then-is_digit
unfolding lower_name_octet
returns-then-is_digit c = grind (arith, common_steps)

pub returns-else-is_digit : goal.returns-else-is_digit
unfolding lower_name_octet
returns-else-is_digit c = grind (arith, common_steps)
