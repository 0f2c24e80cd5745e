-- `jcal_properties::names::put_name` meets its contract.
use mathlib.Core.Path.{sym, ◌∙◌}
use Rattle.octets.proofs.Pen.{then, as-text}
use Rattle.jcal_properties.proofs.PropertyParts.{name-string}
use Rattle.jcal_properties.proofs.names.put_name.Goals as goal

pub returns-then-is_name : goal.returns-then-is_name
returns-then-is_name c = as-text (then (then c.put-a.ensures c.put_lower-b.ensures) c.put.ensures) (name-string _ (sym c.is_name.ensures ∙ c.if-is_name.true))

pub returns : goal.returns
returns c = c.put_lower_string.ensures
