-- `jcal_properties::property::is_many` meets its contract.
use Rattle.types.specs.Laid.{row_found}
use Rattle.conversion_theory.specs.Property.{many_of}
use Rattle.jcal_properties.proofs.property.is_many.Goals as goal

pub returns-in-Some : goal.returns-in-Some
returns-in-Some c = unfold many_of row_found in rw c.in-Some.is

pub returns-in-None : goal.returns-in-None
returns-in-None c = unfold many_of row_found in rw c.in-None.is
