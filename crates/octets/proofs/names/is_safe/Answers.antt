-- `octets::names::is_safe` meets its contract.
use mathlib.Core.Path.{refl}
use Rattle.octets.specs.Groups.{safe_octet}
use Rattle.octets.proofs.names.is_safe.Goals as goal

pub returns : goal.returns
unfolding safe_octet
returns c = rw (c.both-3.ensures, c.both-2.ensures, c.both.ensures) refl
