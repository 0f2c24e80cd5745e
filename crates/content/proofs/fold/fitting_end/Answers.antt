-- `content::fold::fitting_end` meets its contract.
use native.Mathlib.Omega.{arith}
use Rattle.octets.proofs.Limits.{most-columns}
use Rattle.content.proofs.fold.fitting_end.Goals as goal

pub overflow_sub-room : goal.overflow_sub-room
overflow_sub-room c = omega (arith, most-columns)

pub returns-then-len-i : goal.returns-then-len-i
returns-then-len-i c = omega (arith, most-columns)

pub returns-else-len-i : goal.returns-else-len-i
returns-else-len-i c = omega (arith, most-columns)
