-- `content::write::begin_param` meets its contract.
use Rattle.content.proofs.Folding.{then}
use Rattle.content.proofs.write.begin_param.Goals as goal

pub returns : goal.returns
returns c = then (then c.fold_octet-a.ensures c.fold_upper-b.ensures) c.fold_octet.ensures
