-- `values::simple::put_boolean` meets its contract.
use mathlib.Core.Path.{sym, ◌∙◌}
use Rattle.octets.proofs.Pen.{as-text}
use Rattle.values.proofs.Booleans.{shown-true, shown-other}
use Rattle.values.proofs.simple.put_boolean.Goals as goal

pub returns-then-same_name : goal.returns-then-same_name
returns-then-same_name c = as-text c.put_all.ensures (shown-true _ (sym c.same_name.ensures ∙ c.if-same_name.true))

pub returns : goal.returns
returns c = as-text c.put_all-2.ensures (shown-other _ (sym c.same_name.ensures ∙ c.if-same_name.false))
