-- `ical_values::escaping::fold_pair` meets its contract.
use Rattle.content.proofs.Folding.{then}
use Rattle.ical_values.proofs.escaping.fold_pair.Goals as goal

pub returns : goal.returns
returns c = then c.fold_octet-q.ensures c.fold_octet.ensures
