-- `tape::sounding::next_object` meets its contract.
use Rattle.tape.proofs.Scans.{keys_found}
use Rattle.tape.proofs.sounding.next_object.Goals as goal

pub returns : goal.returns
returns c = keys_found _ _ _ c.find.ensures
