-- `octets::names::is_text_bare` meets its contract.
use mathlib.Core.Path.{refl}
use Rattle.octets.specs.Groups.{text_bare}
use Rattle.octets.proofs.names.is_text_bare.Goals as goal

pub returns : goal.returns
unfolding text_bare
returns c = rw (c.both-4.ensures, c.both-3.ensures, c.both-2.ensures, c.both.ensures) refl
