-- `octets::is_digit` meets its contract.
use Rattle.octets.specs.Classes.{is_digit}
use Rattle.octets.proofs.names.is_digit.Goals as goal

pub returns : goal.returns
returns c = unfold is_digit in c.within.ensures
