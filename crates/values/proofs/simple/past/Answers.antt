-- `values::simple::past` meets its contract.
use mathlib.Core.Path.{refl}
use native.Mathlib.Omega.{arith}
use Rattle.values.proofs.Halves.{past-in}
use Rattle.values.proofs.simple.past.Goals as goal

pub returns-then-e-s : goal.returns-then-e-s
returns-then-e-s c = (omega arith, refl)

pub returns-else-e-s : goal.returns-else-e-s
returns-else-e-s c = (omega arith, past-in _ _ c.if-e-s.false)
