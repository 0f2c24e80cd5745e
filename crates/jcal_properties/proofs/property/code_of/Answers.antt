-- `jcal_properties::property::code_of` meets its contract.
use mathlib.Core.Path.{ap, ◌∙◌}
use Rattle.types.specs.Laid.{row_found}
use Rattle.conversion_theory.specs.Property.{type_of, code_of}
use Rattle.jcal_properties.proofs.PropertyParts.{kind-none, kind-some, kind-fault}
use Rattle.jcal_properties.proofs.property.code_of.Goals as goal

pub returns-in-Ok-None : goal.returns-in-Ok-None
returns-in-Ok-None c = c.default_code.ensures ∙ ap (code_of (row_found c.args.found)) (kind-none _ _ c.in-Ok-None.is (rw c.in-Ok-None.is at c.in-Ok-None.field-0-is))

pub returns-in-Ok-Some : goal.returns-in-Ok-Some
unfolding code_of type_of
returns-in-Ok-Some c = c.code_named.ensures ∙ ap (code_of (row_found c.args.found)) (kind-some _ _ c.in-Ok-Some.is (rw c.in-Ok-Some.is at c.in-Ok-Some.field-0-is))

pub returns-in-Err : goal.returns-in-Err
returns-in-Err c = c.default_code-in-Err.ensures ∙ ap (code_of (row_found c.args.found)) (kind-fault _ _ c.in-Err.is)
