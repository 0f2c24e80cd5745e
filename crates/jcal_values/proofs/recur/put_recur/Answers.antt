-- `jcal_values::recur::put_recur` meets its contract.
use Rattle.values.specs.Shown.{recur_shown}
use Rattle.values.proofs.Halves.{wrapped}
use Rattle.jcal_values.proofs.recur.put_recur.Goals as goal

pub returns : goal.returns
unfolding recur_shown
returns c = wrapped _ _ c.put-first.ensures c.put_pieces-close.ensures c.put.ensures
