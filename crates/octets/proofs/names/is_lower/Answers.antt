-- `octets::is_lower` meets its contract.
use Rattle.octets.specs.Classes.{is_lower}
use Rattle.octets.proofs.names.is_lower.Goals as goal

pub returns : goal.returns
returns c = unfold is_lower in c.within.ensures
