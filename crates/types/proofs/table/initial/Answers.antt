-- `types::table::initial` meets its contract.
use Rattle.types.proofs.table.initial.Goals as goal

pub returns : goal.returns
returns c = rw (c.upper_octet.ensures, c.peek.ensures)
