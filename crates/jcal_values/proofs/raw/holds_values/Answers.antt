-- `jcal_values::raw::holds_values` meets its contract.
use mathlib.Core.Path.{◌∙◌}
use Rattle.jcal_values.proofs.TestedValues.{tried-some}
use Rattle.jcal_values.proofs.raw.holds_values.Goals as goal

pub returns : goal.returns
returns c = c.is_some.ensures ∙ tried-some _ _ _ _ _ c.put_tested.ensures
