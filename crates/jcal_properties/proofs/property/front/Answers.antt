-- `jcal_properties::property::front` meets its contract.
use Rattle.jcal_properties.proofs.PropertyParts.{no-params}
use Rattle.jcal_properties.proofs.property.front.Goals as goal

pub returns-then-params-eq0 : goal.returns-then-params-eq0
returns-then-params-eq0 c = rw (no-params _ c.if-params-eq0.true) c.front_plain.ensures
