-- `ical_recur::writing::fold_part` meets its contract.
use Rattle.calendar.specs.Walk.{part_said, part_sort_said}
use Rattle.ical_recur.proofs.Shown.{part-folded}
use Rattle.ical_recur.proofs.writing.fold_part.Goals as goal

pub returns : goal.returns
returns c = part-folded c.args.s.now (part_said c.args.part) (part_sort_said c.sort_of.result) c.sort_of.ensures c.fold_upper-named.ensures c.fold_octet-behind.ensures c.fold_values.ensures
