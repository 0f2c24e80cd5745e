-- `octets::put_all` meets its contract: octets in their case are themselves.
use Rattle.octets.proofs.Classes.{exact}
use Rattle.octets.proofs.Pen.{as-text}
use Rattle.octets.proofs.writing.put_all.Goals as goal

pub returns : goal.returns
returns c = as-text c.put_cased.ensures (exact _)
