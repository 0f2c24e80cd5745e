-- `jcal_values::forms::put_short` meets its contract.
use mathlib.Core.Path.{ap}
use Rattle.octets.specs.Optional.{given}
use Rattle.octets.proofs.Pen.{as-text}
use Rattle.json_text.specs.Print.{print_string}
use Rattle.values.specs.Shown.{string_shown}
use Rattle.jcal_values.proofs.forms.put_short.Goals as goal

pub returns-in-Some : goal.returns-in-Some
returns-in-Some c = unfold string_shown given in rw c.in-Some.is (as-text c.put_string.ensures (ap print_string c.as_slice.ensures))

pub returns-in-None : goal.returns-in-None
returns-in-None c = unfold string_shown given in rw c.in-None.is c.put_string-in-None.ensures
