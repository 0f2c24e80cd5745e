-- `ical_recur::wording::put_string` meets its contract.
use Rattle.octets.proofs.Pen.{as-text}
use Rattle.calendar.specs.Walk.{part_sort_said}
use Rattle.calendar.specs.Dates.{moment_text}
use Rattle.values.specs.Recur.{string_text}
use Rattle.ical_recur.proofs.CodedSorts.{string-other}
use Rattle.ical_recur.proofs.wording.put_string.Goals as goal

pub returns-in-Moment : goal.returns-in-Moment
unfolding part_sort_said string_text moment_text
returns-in-Moment c = rw c.in-Moment.is (as-text c.put_text.ensures c.basic.ensures)

pub returns-in_default : goal.returns-in_default
returns-in_default c = as-text c.put_all.ensures (string-other c.args.sort _ c.in_default.not-Moment)
