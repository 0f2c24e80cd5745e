-- `values::simple::most_of` meets its contract.
use native.Mathlib.Omega.{arith}
use Rattle.values.proofs.Floats.{most-minus, most-plus}
use Rattle.values.proofs.simple.most_of.Goals as goal

pub returns-then-peek-eq45 : goal.returns-then-peek-eq45
returns-then-peek-eq45 c = (most-minus _ (omega (arith, c.peek.ensures, c.if-peek-eq45.true)), omega arith)

pub returns-else-peek-eq45 : goal.returns-else-peek-eq45
returns-else-peek-eq45 c = (most-plus _ (λ e. c.if-peek-eq45.false (omega (arith, c.peek.ensures, e))), omega arith)
