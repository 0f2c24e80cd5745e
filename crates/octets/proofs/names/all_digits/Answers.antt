-- `octets::all_digits` meets its contract.
use Rattle.octets.specs.Decimal.{digits}
use Rattle.octets.proofs.names.all_digits.Goals as goal

pub returns : goal.returns
returns c = unfold digits in c.is_filled.ensures
