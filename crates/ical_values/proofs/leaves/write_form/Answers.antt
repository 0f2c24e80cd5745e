-- `ical_values::leaves::write_form` meets its contract.
use Rattle.octets.proofs.Pen.{front_same}
use mathlib.Core.Path.{sym, ◌∙◌}
use Rattle.ical_values.proofs.leaves.write_form.Goals as goal

pub returns-then-is_extended : goal.returns-then-is_extended
returns-then-is_extended c = (sym c.is_extended.ensures ∙ c.if-is_extended.true, c.fold_basic.ensures)

pub returns : goal.returns
returns c = (sym c.is_extended.ensures ∙ c.if-is_extended.false, front_same)
