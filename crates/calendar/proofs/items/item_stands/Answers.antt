-- `calendar::items::item_stands` meets its contract.
use Rattle.calendar.specs.Recurrence.{item_of}
use Rattle.calendar.specs.Walk.{part_sort_said}
use Rattle.calendar.proofs.items.item_stands.Goals as goal

pub returns-in-Frequency : goal.returns-in-Frequency
returns-in-Frequency c = unfold part_sort_said item_of in rw c.in-Frequency.is c.is_frequency.ensures

pub returns-in-Moment : goal.returns-in-Moment
returns-in-Moment c = unfold part_sort_said item_of in rw c.in-Moment.is c.is_until.ensures

pub returns-in-Count : goal.returns-in-Count
returns-in-Count c = unfold part_sort_said item_of in rw c.in-Count.is c.is_count.ensures

pub returns-in-Weekday : goal.returns-in-Weekday
returns-in-Weekday c = unfold part_sort_said item_of in rw c.in-Weekday.is c.is_weekday.ensures

pub returns-in-Ordinal : goal.returns-in-Ordinal
returns-in-Ordinal c = unfold part_sort_said item_of in rw c.in-Ordinal.is c.is_ordinal.ensures

pub returns-in-Numbers : goal.returns-in-Numbers
returns-in-Numbers c = unfold part_sort_said item_of in rw c.in-Numbers.is c.is_number.ensures
