-- `content::object::put_comma` meets its contract.
use Rattle.octets.proofs.Pen.{nothing}
use Rattle.content.proofs.object.put_comma.Goals as goal

pub returns-then-begun : goal.returns-then-begun
returns-then-begun c = rw c.if-begun.true c.put.ensures

pub returns : goal.returns
returns c = rw c.if-begun.false nothing
