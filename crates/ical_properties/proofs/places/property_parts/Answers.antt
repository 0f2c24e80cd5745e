-- `ical_properties::places::property_parts` meets its contract.
use Rattle.ical_properties.proofs.PropertyPlaces.{array-in, object-in, parts_at}
use Rattle.ical_properties.proofs.places.property_parts.Goals as goal

pub returns : goal.returns
returns c = parts_at _ (array-in c.into-a.ensures) c.text_at-name.ensures (object-in c.into-params.ensures) c.behind-c.ensures c.text_at-kind.ensures
