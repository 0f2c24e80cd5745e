-- `octets::is_text_octet` meets its contract.
use native.Mathlib.Omega.{arith}
use Rattle.std.proofs.lemmas.Grind.{common_steps}
use Rattle.octets.specs.Classes.{text_octet}
use Rattle.octets.proofs.names.is_text_octet.Goals as goal

pub returns-then-is_plain_octet : goal.returns-then-is_plain_octet
unfolding text_octet
returns-then-is_plain_octet c = grind (arith, common_steps)

pub returns-else-is_plain_octet : goal.returns-else-is_plain_octet
unfolding text_octet
returns-else-is_plain_octet c = grind (arith, common_steps)
