-- `content::object::put_values` meets its contract.
use mathlib.Core.Path.{sym}
use Rattle.octets.proofs.Pen.{then, as-text}
use Rattle.content.proofs.Objects.{values_one, values-many}
use Rattle.content.proofs.object.put_values.Goals as goal

pub returns-then-e-values : goal.returns-then-e-values
returns-then-e-values c = as-text c.put_value.ensures (sym (values_one c.args.values.now c.next_bare-e.result c.next_bare-e.ensures c.if-e-values.true))

pub returns : goal.returns
returns c = as-text (then c.put-a.ensures (then c.put_value-b.ensures c.put_more.ensures)) (sym (values-many c.args.values.now c.next_bare-e.result c.next_bare-e.ensures c.if-e-values.false))
