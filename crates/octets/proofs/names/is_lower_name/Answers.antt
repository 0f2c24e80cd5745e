-- `octets::is_lower_name` meets its contract.
use Rattle.octets.specs.Classes.{is_lower_name}
use Rattle.octets.proofs.names.is_lower_name.Goals as goal

pub returns : goal.returns
returns c = unfold is_lower_name in c.is_filled.ensures
