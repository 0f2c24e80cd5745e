-- `jcal_properties::property::front_plain` meets its contract.
use mathlib.Core.Bool.{false, not}
use mathlib.Core.List.{[]}
use mathlib.Core.Option.{none}
use mathlib.Core.Path.{refl, ap}
use Rattle.octets.specs.Basics.{any}
use Rattle.octets.proofs.Pen.{then, as-text, front_same}
use Rattle.content.specs.Parameters.{is_encoded}
use Rattle.jcal_properties.proofs.PropertyParts.{plain-read, plain-front, plain-undecoded, eight-refused, front-stands}
use Rattle.jcal_properties.proofs.property.front_plain.Goals as goal

pub returns-then-not-binary_fits : goal.returns-then-not-binary_fits
unfolding is_encoded any
returns-then-not-binary_fits c = (eight-refused c.args.name.now [] none (plain-read c.args.name.now) _ _ c.default_code-code.ensures false _ refl c.binary_fits.ensures (ap not c.if-not-binary_fits.true), front_same)

pub returns : goal.returns
unfolding is_encoded any
returns c = front-stands c.args.name.now [] none (plain-read c.args.name.now) _ _ c.default_code-code.ensures false _ refl c.binary_fits.ensures false (plain-undecoded _) (ap not c.if-not-binary_fits.false) (as-text (then (then c.put-a.ensures c.put_name-b.ensures) c.put_all-c.ensures) (plain-front c.args.name.now)) c.put_default-to.ensures
