-- `jcal_properties::property::put_front` meets its contract.
use Rattle.octets.proofs.Pen.{then, as-text}
use Rattle.jcal_properties.proofs.PropertyParts.{front-wrote}
use Rattle.jcal_properties.proofs.property.put_front.Goals as goal

pub returns : goal.returns
returns c = as-text (then (then (then (then c.put-a.ensures c.put_name-b.ensures) c.put-c.ensures) c.put_params-d.ensures) c.put.ensures) (front-wrote _ _ _)
