-- `ical_recur::writing::fold_comma` meets its contract.
use Rattle.content.proofs.Folding.{none, as-folded}
use Rattle.ical_recur.proofs.Splits.{first-mark, next-mark}
use Rattle.ical_recur.proofs.writing.fold_comma.Goals as goal

pub returns-then-place-eq0 : goal.returns-then-place-eq0
returns-then-place-eq0 c = as-folded none (first-mark 44 _ c.if-place-eq0.true)

pub returns-else-place-eq0 : goal.returns-else-place-eq0
returns-else-place-eq0 c = as-folded c.fold_octet.ensures (next-mark 44 _ c.if-place-eq0.false)
