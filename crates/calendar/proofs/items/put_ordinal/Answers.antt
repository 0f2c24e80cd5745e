-- `calendar::items::put_ordinal` meets its contract.
use Rattle.calendar.proofs.WrittenItems.{ordinal-wrote}
use Rattle.calendar.proofs.items.put_ordinal.Goals as goal

pub returns : goal.returns
returns c = ordinal-wrote c.args.s.now c.day_from-from.result c.day_from-from.ensures c.put_integer_text-behind.ensures c.put_upper.ensures
