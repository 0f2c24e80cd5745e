-- `jcal_values::recur::put_items` meets its contract.
use Rattle.octets.proofs.Pen.{as-text}
use Rattle.values.proofs.Halves.{wrapped}
use Rattle.jcal_values.proofs.RecurParts.{items-plain, items-array}
use Rattle.jcal_values.proofs.recur.put_items.Goals as goal

pub returns-then-find-v : goal.returns-then-find-v
returns-then-find-v c = as-text c.put_item_json.ensures (items-plain _ _ _ c.find.ensures c.if-find-v.true)

pub returns : goal.returns
returns c = as-text (wrapped _ _ c.put-first.ensures c.put_pieces-close.ensures c.put.ensures) (items-array _ _ _ c.find.ensures c.if-find-v.false)
