-- `jcal_properties::property::put_sent` meets its contract.
use Rattle.jcal_values.proofs.DecodedTexts.{text-fits}
use Rattle.values.specs.Base64.{text_sent}
use Rattle.octets.specs.Optional.{then?}
use Rattle.jcal_properties.proofs.property.put_sent.Goals as goal

pub returns-then-decodes : goal.returns-then-decodes
returns-then-decodes c = rw (c.if-decodes.true, ← c.is_many-many.ensures, ← text-fits c.args.value.now c.requires) c.put_decoded.ensures

pub returns : goal.returns
unfolding text_sent then?
returns c = rw (c.if-decodes.false, ← c.is_many-many.ensures) c.put_tested.ensures
