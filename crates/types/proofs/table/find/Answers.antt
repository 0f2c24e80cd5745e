-- `types::table::find` meets its contract.
use mathlib.Core.Path.{sym, ap, ◌∙◌}
use Rattle.types.specs.Laid.{row_found}
use Rattle.types.proofs.LookupLaws.{not-default, found-some-default}
use Rattle.types.proofs.table.find.Goals as goal

pub returns-in-None : goal.returns-in-None
returns-in-None c = unfold row_found in c.find_in.ensures ∙ sym (not-default _ _ (sym c.find_default.ensures ∙ ap row_found c.in-None.is))

pub returns-in_default : goal.returns-in_default
returns-in_default c = c.find_default.ensures ∙ sym (found-some-default _ _ _ c.in_default.not-None c.find_default.ensures)
