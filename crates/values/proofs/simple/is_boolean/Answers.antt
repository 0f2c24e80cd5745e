-- `values::simple::is_boolean` meets its contract.
use mathlib.Core.Path.{sym, ◌∙◌}
use Rattle.values.proofs.Booleans.{boolean-true, boolean-other}
use Rattle.values.proofs.simple.is_boolean.Goals as goal

pub returns-then-same_name : goal.returns-then-same_name
returns-then-same_name c = c.if-same_name.true ∙ sym (boolean-true _ (sym c.same_name.ensures ∙ c.if-same_name.true))

pub returns-else-same_name : goal.returns-else-same_name
returns-else-same_name c = c.same_name-else-same_name.ensures ∙ sym (boolean-other _ (sym c.same_name.ensures ∙ c.if-same_name.false))
