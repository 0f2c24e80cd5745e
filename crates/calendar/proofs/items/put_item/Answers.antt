-- `calendar::items::put_item` meets its contract.
use Rattle.calendar.specs.Walk.{part_sort_said}
use Rattle.calendar.specs.Walk.{item_shown}
use Rattle.calendar.proofs.items.put_item.Goals as goal

pub returns-in-Frequency : goal.returns-in-Frequency
returns-in-Frequency c = unfold part_sort_said item_shown in rw c.in-Frequency.is c.put_upper.ensures

pub returns-in-Moment : goal.returns-in-Moment
returns-in-Moment c = unfold part_sort_said item_shown in rw c.in-Moment.is c.put_upper-in-Moment.ensures

pub returns-in-Count : goal.returns-in-Count
returns-in-Count c = unfold part_sort_said item_shown in rw c.in-Count.is c.put_integer_text.ensures

pub returns-in-Weekday : goal.returns-in-Weekday
returns-in-Weekday c = unfold part_sort_said item_shown in rw c.in-Weekday.is c.put_upper-in-Weekday.ensures

pub returns-in-Ordinal : goal.returns-in-Ordinal
returns-in-Ordinal c = unfold part_sort_said item_shown in rw c.in-Ordinal.is c.put_ordinal.ensures

pub returns-in-Numbers : goal.returns-in-Numbers
returns-in-Numbers c = unfold part_sort_said item_shown in rw c.in-Numbers.is c.put_integer_text-in-Numbers.ensures
