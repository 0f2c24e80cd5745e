-- `octets::put_lower` meets its contract.
use Rattle.octets.specs.Classes.{lower}
use Rattle.octets.proofs.writing.put_lower.Goals as goal

pub returns : goal.returns
returns c = unfold lower in c.put_cased.ensures
