-- `jcal_properties::property::params_fit` meets its contract.
use mathlib.Core.Path.{sym, ◌∙◌}
use Rattle.jcal_properties.proofs.PropertyParts.{params-twice, params-once}
use Rattle.jcal_properties.proofs.property.params_fit.Goals as goal

pub returns-then-name_twice : goal.returns-then-name_twice
returns-then-name_twice c = params-twice _ _ (sym c.name_twice.ensures ∙ c.if-name_twice.true)

pub returns : goal.returns
returns c = params-once _ _ _ (sym c.name_twice.ensures ∙ c.if-name_twice.false) c.is_ok.ensures.value
