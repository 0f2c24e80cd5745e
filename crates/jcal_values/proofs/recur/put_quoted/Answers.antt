-- `jcal_values::recur::put_quoted` meets its contract.
use Rattle.values.proofs.Halves.{wrapped}
use Rattle.jcal_values.proofs.recur.put_quoted.Goals as goal

pub returns : goal.returns
returns c = wrapped _ _ c.put-first.ensures c.put_item-close.ensures c.put.ensures
