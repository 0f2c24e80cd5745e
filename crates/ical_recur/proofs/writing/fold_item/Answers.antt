-- `ical_recur::writing::fold_item` meets its contract.
use Rattle.calendar.specs.Walk.{part_sort_said}
use Rattle.content.proofs.Folding.{as-folded}
use Rattle.ical_recur.proofs.CodedSorts.{plain-sort, integer-sort}
use Rattle.ical_recur.proofs.writing.fold_item.Goals as goal

pub returns-in-Frequency : goal.returns-in-Frequency
returns-in-Frequency c = as-folded c.fold_upper.ensures (plain-sort c.args.sort _ c.in-Frequency.is)

pub returns-in-Count : goal.returns-in-Count
returns-in-Count c = as-folded c.fold_integer.ensures (integer-sort c.args.sort _ c.in-Count.is)

pub returns-in-Ordinal : goal.returns-in-Ordinal
unfolding part_sort_said
returns-in-Ordinal c = rw c.in-Ordinal.is c.fold_ordinal.ensures
