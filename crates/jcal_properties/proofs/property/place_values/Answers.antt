-- `jcal_properties::property::place_values` meets its contract.
use mathlib.Core.Path.{refl}
use Rattle.values.specs.Read.{values_of}
use Rattle.conversion_theory.specs.Property.{values_sent}
use Rattle.jcal_properties.proofs.PropertyParts.{values-wrote}
use Rattle.jcal_properties.proofs.property.place_values.Goals as goal

pub returns-in-Some : goal.returns-in-Some
unfolding values_sent values_of
returns-in-Some c = values-wrote _ _ _ (rw (c.sort_of-sort.ensures, c.in-Some.is) at c.put_sent.ensures) c.put.ensures

pub returns-in-None : goal.returns-in-None
unfolding values_sent values_of
returns-in-None c = let t = rw (c.sort_of-sort.ensures, c.in-None.is) at c.put_sent.ensures in
    (t.0, refl, t.1)
