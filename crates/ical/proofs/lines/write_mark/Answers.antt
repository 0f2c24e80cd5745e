-- `ical::lines::write_mark` meets its contract.
use Rattle.content.proofs.Folding.{then, line-ended}
use Rattle.ical.proofs.lines.write_mark.Goals as goal

pub slice_bounds-fold_upper-count : goal.slice_bounds-fold_upper-count
slice_bounds-fold_upper-count c = c.requires.0

pub slice_bounds-fold_upper-start : goal.slice_bounds-fold_upper-start
slice_bounds-fold_upper-start c = c.requires.0

pub slice_bounds-fold_upper-end : goal.slice_bounds-fold_upper-end
slice_bounds-fold_upper-end c = c.requires.1

pub returns : goal.returns
returns c = line-ended (then c.fold_all-p.ensures c.fold_upper-q.ensures) c.end_line.ensures
