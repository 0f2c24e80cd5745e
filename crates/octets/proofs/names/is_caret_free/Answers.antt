-- `octets::names::is_caret_free` meets its contract.
use mathlib.Core.Path.{refl}
use Rattle.octets.specs.Groups.{caret_free}
use Rattle.octets.proofs.names.is_caret_free.Goals as goal

pub returns : goal.returns
unfolding caret_free
returns c = rw (c.both-2.ensures, c.both.ensures) refl
