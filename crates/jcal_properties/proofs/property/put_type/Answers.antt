-- `jcal_properties::property::put_type` meets its contract.
use mathlib.Core.Path.{ap}
use Rattle.octets.proofs.Pen.{as-text}
use Rattle.json_text.specs.Print.{print_string}
use Rattle.types.specs.Laid.{row_found}
use Rattle.conversion_theory.specs.Property.{type_of}
use Rattle.jcal_properties.proofs.PropertyParts.{kind-none, kind-some, kind-fault}
use Rattle.jcal_properties.proofs.property.put_type.Goals as goal

pub returns-in-Ok-None : goal.returns-in-Ok-None
returns-in-Ok-None c = as-text c.put_default.ensures (ap (λ t. print_string (type_of (row_found c.args.found) t)) (kind-none _ _ c.in-Ok-None.is (rw c.in-Ok-None.is at c.in-Ok-None.field-0-is)))

pub returns-in-Ok-Some : goal.returns-in-Ok-Some
unfolding type_of
returns-in-Ok-Some c = as-text c.put_name.ensures (ap (λ t. print_string (type_of (row_found c.args.found) t)) (kind-some _ _ c.in-Ok-Some.is (rw c.in-Ok-Some.is at c.in-Ok-Some.field-0-is)))

pub returns-in-Err : goal.returns-in-Err
returns-in-Err c = as-text c.put_default-in-Err.ensures (ap (λ t. print_string (type_of (row_found c.args.found) t)) (kind-fault _ _ c.in-Err.is))
