-- `types::codes::put_type_name` meets its contract.
use Rattle.octets.proofs.Pen.{as-text}
use Rattle.types.specs.Codes.{type_names, type_name}
use Rattle.types.proofs.codes.put_type_name.Goals as goal

pub returns : goal.returns
unfolding type_name type_names
returns c = as-text c.put_all.ensures c.name_at.ensures
