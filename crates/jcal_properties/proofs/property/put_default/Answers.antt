-- `jcal_properties::property::put_default` meets its contract.
use Rattle.octets.proofs.Pen.{then, as-text}
use Rattle.json_text.specs.Print.{print_string, quoted, escaped}
use Rattle.types.specs.Laid.{row_found}
use Rattle.conversion_theory.specs.Property.{type_of}
use Rattle.jcal_properties.proofs.PropertyParts.{type-quoted}
use Rattle.jcal_properties.proofs.property.put_default.Goals as goal

pub returns-in-Some : goal.returns-in-Some
unfolding type_of row_found
returns-in-Some c = rw c.in-Some.is (as-text (then (then c.put-a.ensures c.put_type_name-b.ensures) c.put.ensures) (type-quoted _))

pub returns-in-None : goal.returns-in-None
returns-in-None c = unfold type_of row_found print_string quoted escaped in rw c.in-None.is c.put_all.ensures
