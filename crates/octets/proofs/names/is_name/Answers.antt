-- `octets::is_name` meets its contract.
use Rattle.octets.specs.Classes.{is_name}
use Rattle.octets.proofs.names.is_name.Goals as goal

pub returns : goal.returns
returns c = unfold is_name in c.is_filled.ensures
