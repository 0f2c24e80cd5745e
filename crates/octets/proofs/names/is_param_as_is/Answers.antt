-- `octets::names::is_param_as_is` meets its contract.
use mathlib.Core.Path.{refl}
use Rattle.octets.specs.Groups.{param_as_is}
use Rattle.octets.proofs.names.is_param_as_is.Goals as goal

pub returns : goal.returns
unfolding param_as_is
returns c = rw (c.both.ensures, c.is_as_is.ensures) refl
