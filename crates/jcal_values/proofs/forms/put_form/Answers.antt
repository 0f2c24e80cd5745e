-- `jcal_values::forms::put_form` meets its contract.
use mathlib.Core.Path.{ap}
use Rattle.octets.proofs.Pen.{as-text}
use Rattle.values.specs.Shown.{string_shown}
use Rattle.jcal_values.proofs.forms.put_form.Goals as goal

pub returns : goal.returns
returns c = as-text c.put_short.ensures (ap string_shown c.extended.ensures)
