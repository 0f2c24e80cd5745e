-- `jcal_values::recur::put_item_json` meets its contract.
use mathlib.Core.Path.{ap, ◌∙◌}
use Rattle.octets.proofs.Pen.{as-text}
use Rattle.calendar.specs.Walk.{part_sort_said}
use Rattle.values.specs.Shown.{string_shown, item_json_shown}
use Rattle.jcal_values.proofs.recur.put_item_json.Goals as goal

pub returns-in-Frequency : goal.returns-in-Frequency
returns-in-Frequency c = unfold part_sort_said item_json_shown in as-text c.put_quoted.ensures (rw c.in-Frequency.is)

pub returns-in-Moment : goal.returns-in-Moment
unfolding part_sort_said item_json_shown
returns-in-Moment c = as-text c.put_short.ensures (ap string_shown c.extended_moment.ensures ∙ rw c.in-Moment.is)

pub returns-in-Count : goal.returns-in-Count
returns-in-Count c = unfold part_sort_said item_json_shown in as-text c.put_item.ensures (rw c.in-Count.is)

pub returns-in-Weekday : goal.returns-in-Weekday
returns-in-Weekday c = unfold part_sort_said item_json_shown in as-text c.put_quoted-in-Weekday.ensures (rw c.in-Weekday.is)

pub returns-in-Ordinal : goal.returns-in-Ordinal
returns-in-Ordinal c = unfold part_sort_said item_json_shown in as-text c.put_quoted-in-Ordinal.ensures (rw c.in-Ordinal.is)

pub returns-in-Numbers : goal.returns-in-Numbers
returns-in-Numbers c = unfold part_sort_said item_json_shown in as-text c.put_item-in-Numbers.ensures (rw c.in-Numbers.is)
