-- A component as jCal (RFC 7265 3.2 to 3.5; 01, Lines and Parameters).
use Rattle.std.specs.Prelude.{map}
use Rattle.json_text.specs.Tree.{Json, str, arr, obj, Items, no_items, item, items_of}
use Rattle.content.specs.Parameters.{members_of}
use Rattle.conversion_theory.specs.Tree.{Property, Component, component, Forest, leaf, grow}

-- [name, parameters, type, value ..]
unfoldable pub property_json : Property → Json
property_json p = arr (item (str p.name) (item (obj (members_of p.params)) (item (str p.type) (items_of p.values))))

-- [name, properties, sub-components]
unfoldable mutual
  pub jcal_of : Component → Json
  jcal_of (component n ps cs) = arr (item (str n) (item (arr (items_of (map property_json ps))) (item (arr (jcals_of cs)) no_items)))

  pub jcals_of : Forest → Items
  jcals_of leaf = no_items
  jcals_of (grow c cs) = item (jcal_of c) (jcals_of cs)
