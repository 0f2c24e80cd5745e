-- `content::write::next_param_value` meets its contract.
use Rattle.content.proofs.Folding.{then}
use Rattle.content.proofs.write.next_param_value.Goals as goal

pub returns : goal.returns
returns c = then c.fold_octet-a.ensures c.write_param_value.ensures
