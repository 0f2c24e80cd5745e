-- `ical_values::writing::fold_basic` meets its contract.
use mathlib.Core.Path.{◌∙◌}
use Rattle.content.proofs.Folding.{as-folded}
use Rattle.ical_values.proofs.writing.fold_basic.Goals as goal

pub returns : goal.returns
returns c = as-folded c.fold_all.ensures (c.as_slice.ensures ∙ c.basic.ensures)
