-- `octets::is_sign` meets its contract.
use native.Mathlib.Omega.{arith}
use Rattle.std.proofs.lemmas.Grind.{common_steps}
use Rattle.octets.specs.Decimal.{is_sign}
use Rattle.octets.proofs.numbers.is_sign.Goals as goal

pub returns-then-c-eq43 : goal.returns-then-c-eq43
unfolding is_sign
returns-then-c-eq43 c = grind (arith, common_steps)

pub returns-else-c-eq43 : goal.returns-else-c-eq43
unfolding is_sign
returns-else-c-eq43 c = grind (arith, common_steps)
