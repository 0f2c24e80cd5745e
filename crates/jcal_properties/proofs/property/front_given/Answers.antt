-- `jcal_properties::property::front_given` meets its contract.
use mathlib.Core.Bool.{not}
use mathlib.Core.Path.{ap}
use Rattle.octets.proofs.Pen.{front_same}
use Rattle.content.specs.Parts.{params_in}
use Rattle.jcal_properties.proofs.PropertyParts.{given-refused, given-read, eight-refused, front-stands}
use Rattle.jcal_properties.proofs.property.front_given.Goals as goal

pub returns-then-not-params_fit : goal.returns-then-not-params_fit
returns-then-not-params_fit c = (λ t v e. given-refused c.args.name.now (params_in c.args.params.now) c.params_fit.result _ c.value_type-kind.ensures.said c.params_fit.ensures (ap not c.if-not-params_fit.true) t v, front_same)

pub returns-then-not-binary_fits : goal.returns-then-not-binary_fits
returns-then-not-binary_fits c = (eight-refused c.args.name.now (params_in c.args.params.now) _ (given-read c.args.name.now (params_in c.args.params.now) c.params_fit.result _ c.value_type-kind.ensures.said c.params_fit.ensures (ap not c.if-not-params_fit.false)) _ _ c.code_of-code.ensures _ _ c.is_encoded-encoded.ensures c.binary_fits.ensures (ap not c.if-not-binary_fits.true), front_same)

pub returns : goal.returns
returns c = front-stands c.args.name.now (params_in c.args.params.now) _ (given-read c.args.name.now (params_in c.args.params.now) c.params_fit.result _ c.value_type-kind.ensures.said c.params_fit.ensures (ap not c.if-not-params_fit.false)) _ _ c.code_of-code.ensures _ _ c.is_encoded-encoded.ensures c.binary_fits.ensures _ c.is_decoded-decodes.ensures (ap not c.if-not-binary_fits.false) c.put_front-a.ensures c.put_type-to.ensures
