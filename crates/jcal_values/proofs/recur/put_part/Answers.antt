-- `jcal_values::recur::put_part` meets its contract.
use Rattle.calendar.specs.Walk.{part_said, part_sort_said}
use Rattle.calendar.proofs.WrittenItems.{part-places}
use Rattle.jcal_values.proofs.RecurParts.{part-wrote}
use Rattle.jcal_values.proofs.recur.put_part.Goals as goal

pub slice_bounds-put_key-end : goal.slice_bounds-put_key-end
slice_bounds-put_key-end c = (part-places _ _ c.first_part-part.ensures).0

pub slice_bounds-put_items-count : goal.slice_bounds-put_items-count
slice_bounds-put_items-count c = (part-places _ _ c.first_part-part.ensures).1

pub slice_bounds-put_items-start : goal.slice_bounds-put_items-start
slice_bounds-put_items-start c = (part-places _ _ c.first_part-part.ensures).1

pub slice_bounds-put_items-end : goal.slice_bounds-put_items-end
slice_bounds-put_items-end c = (part-places _ _ c.first_part-part.ensures).2

pub returns : goal.returns
returns c = let first_part = c.first_part-part in
    part-wrote c.args.s.now (part_said first_part.result) (part_sort_said c.sort_of.result) first_part.ensures c.sort_of.ensures c.put_key-behind.ensures c.put_items.ensures
