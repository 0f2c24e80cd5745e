-- `content::object::put_value` meets its contract.
use Rattle.content.proofs.Objects.{value-wrote}
use Rattle.content.proofs.object.put_value.Goals as goal

pub returns : goal.returns
returns c = value-wrote c.args.v.now _ c.unquoted.ensures c.put-a.ensures c.put_decoded.ensures
