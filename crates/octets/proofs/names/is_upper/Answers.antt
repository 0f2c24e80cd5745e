-- `octets::is_upper` meets its contract.
use Rattle.octets.specs.Classes.{is_upper}
use Rattle.octets.proofs.names.is_upper.Goals as goal

pub returns : goal.returns
returns c = unfold is_upper in c.within.ensures
