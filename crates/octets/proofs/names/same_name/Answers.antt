-- `octets::same_name` meets its contract.
use Rattle.octets.specs.Classes.{upper, same_name}
use Rattle.octets.proofs.names.same_name.Goals as goal

pub returns : goal.returns
returns c = unfold same_name upper in c.same_in.ensures
