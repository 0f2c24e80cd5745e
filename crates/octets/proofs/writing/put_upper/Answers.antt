-- `octets::put_upper` meets its contract.
use Rattle.octets.specs.Classes.{upper}
use Rattle.octets.proofs.writing.put_upper.Goals as goal

pub returns : goal.returns
returns c = unfold upper in c.put_cased.ensures
