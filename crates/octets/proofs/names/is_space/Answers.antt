-- `octets::is_space` meets its contract.
use native.Mathlib.Omega.{arith}
use Rattle.std.proofs.lemmas.Grind.{common_steps}
use Rattle.octets.specs.Classes.{is_space}
use Rattle.octets.proofs.names.is_space.Goals as goal

pub returns-in_default : goal.returns-in_default
unfolding is_space
returns-in_default c = grind (arith, common_steps)

pub returns-in_default-2 : goal.returns-in_default-2
unfolding is_space
returns-in_default-2 c = grind (arith, common_steps)

pub returns-in-32 : goal.returns-in-32
unfolding is_space
returns-in-32 c = grind (arith, common_steps)

pub returns-in-32-2 : goal.returns-in-32-2
unfolding is_space
returns-in-32-2 c = grind (arith, common_steps)
