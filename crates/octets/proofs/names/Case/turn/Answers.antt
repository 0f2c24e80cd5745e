-- `octets::turn` meets its contract.
use mathlib.Core.Path.{refl}
use Rattle.octets.proofs.names.Case.turn.Goals as goal

pub returns-in-Upper : goal.returns-in-Upper
returns-in-Upper c = rw c.in-Upper.is c.upper_octet.ensures

pub returns-in-Lower : goal.returns-in-Lower
returns-in-Lower c = rw c.in-Lower.is c.lower_octet.ensures

pub returns-in-Exact : goal.returns-in-Exact
returns-in-Exact c = rw c.in-Exact.is refl
