-- `octets::names::is_text_as_is` meets its contract.
use mathlib.Core.Path.{refl}
use Rattle.octets.specs.Groups.{text_as_is}
use Rattle.octets.proofs.names.is_text_as_is.Goals as goal

pub returns : goal.returns
unfolding text_as_is
returns c = rw (c.both.ensures, c.is_text_bare.ensures) refl
