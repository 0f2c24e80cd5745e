-- `octets::put` meets its contract.
use Rattle.octets.proofs.Pen.{one, none}
use Rattle.octets.proofs.writing.put.Goals as goal

pub returns-then-at-out : goal.returns-then-at-out
returns-then-at-out c = one _ _ _ c.if-at-out.true

pub returns-else-at-out : goal.returns-else-at-out
returns-else-at-out c = none _ _ _ c.if-at-out.false
