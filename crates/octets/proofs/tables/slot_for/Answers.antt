-- `octets::slot_for` meets its contract.
use native.Mathlib.Omega.{arith}
use Rattle.std.proofs.lemmas.Grind.{common_steps}
use Rattle.octets.specs.Optional.{when}
use Rattle.octets.specs.Slots.{slot_for}
use Rattle.octets.proofs.tables.slot_for.Goals as goal

pub returns-then-end-gt0 : goal.returns-then-end-gt0
unfolding slot_for when
returns-then-end-gt0 c = grind (arith, common_steps)

pub returns-else-from-end : goal.returns-else-from-end
unfolding slot_for when
returns-else-from-end c = grind (arith, common_steps)
