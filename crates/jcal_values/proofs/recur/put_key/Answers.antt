-- `jcal_values::recur::put_key` meets its contract.
use Rattle.values.specs.Shown.{key_shown}
use Rattle.values.proofs.Halves.{wrapped}
use Rattle.jcal_values.proofs.recur.put_key.Goals as goal

pub returns : goal.returns
unfolding key_shown
returns c = wrapped _ _ c.put-first.ensures c.put_lower-close.ensures c.put_all.ensures
