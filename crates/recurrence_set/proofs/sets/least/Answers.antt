-- `recurrence_set::sets::least` meets its contract.
use native.Mathlib.Omega.{arith}
use lib.Count.{trailing_le}
use Rattle.recurrence_set.proofs.SetBits.{least-of}
use Rattle.recurrence_set.proofs.sets.least.Goals as goal

pub overflow_cast-result : goal.overflow_cast-result
overflow_cast-result c = omega (arith, trailing_le 64 c.args.set)

pub returns : goal.returns
returns c = (least-of _, c.if-set-eq0.false)
