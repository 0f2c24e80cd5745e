-- `jcal_properties::property::default_code` meets its contract.
use mathlib.Core.Path.{sym}
use Rattle.types.specs.Laid.{row_found}
use Rattle.conversion_theory.specs.Property.{type_of, code_of}
use Rattle.conversion_theory.proofs.PropertyReading.{unprocessed-code}
use Rattle.jcal_properties.proofs.property.default_code.Goals as goal

pub returns-in-Some : goal.returns-in-Some
returns-in-Some c = unfold code_of type_of row_found in rw c.in-Some.is c.known_code.ensures

pub returns-in-None : goal.returns-in-None
returns-in-None c = unfold row_found in rw c.in-None.is (sym unprocessed-code)
