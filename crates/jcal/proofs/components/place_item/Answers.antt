-- `jcal::components::place_item` meets its contract.
use Rattle.types.specs.Laid.{table_in}
use Rattle.jcal_properties.proofs.PropertyParts.{line-fits}
use Rattle.jcal.proofs.Properties.{item-placed}
use Rattle.jcal.proofs.components.place_item.Goals as goal

pub returns : goal.returns
returns c = rw (line-fits (table_in c.args.rows.now) c.args.line.now c.requires) at (item-placed _ _ _ c.place_property.result c.put_comma-to.ensures c.place_property.ensures)
