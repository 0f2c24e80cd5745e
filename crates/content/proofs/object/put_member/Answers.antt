-- `content::object::put_member` meets its contract.
use Rattle.octets.proofs.Pen.{then}
use Rattle.content.proofs.object.put_member.Goals as goal

pub returns : goal.returns
returns c = then c.put_comma-a.ensures (then c.put_key-b.ensures c.put_values.ensures)
