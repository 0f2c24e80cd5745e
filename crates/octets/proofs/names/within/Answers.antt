-- `octets::within` meets its contract.
use native.Mathlib.Omega.{arith}
use Rattle.std.proofs.lemmas.Grind.{common_steps}
use Rattle.octets.specs.Classes.{between}
use Rattle.octets.proofs.names.within.Goals as goal

pub returns-then-lo-c : goal.returns-then-lo-c
unfolding between
returns-then-lo-c c = grind (arith, common_steps)

pub returns-else-lo-c : goal.returns-else-lo-c
unfolding between
returns-else-lo-c c = grind (arith, common_steps)
