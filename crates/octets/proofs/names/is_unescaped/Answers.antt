-- `octets::names::is_unescaped` meets its contract.
use mathlib.Core.Path.{refl}
use Rattle.octets.specs.Groups.{json_unescaped}
use Rattle.octets.proofs.names.is_unescaped.Goals as goal

pub returns : goal.returns
unfolding json_unescaped
returns c = rw (c.both-2.ensures, c.both.ensures) refl
