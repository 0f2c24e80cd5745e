-- `ical_recur::writing::fold_ordinal` meets its contract.
use mathlib.Core.Path.{refl}
use Rattle.ical_recur.proofs.Shown.{ordinal-short, ordinal-folded}
use Rattle.ical_recur.proofs.writing.fold_ordinal.Goals as goal

pub returns-then-s-lt2 : goal.returns-then-s-lt2
returns-then-s-lt2 c = ordinal-short _ c.if-s-lt2.true c.fold_upper.ensures

pub returns : goal.returns
returns c = ordinal-folded _ _ refl c.fold_integer-q.ensures c.fold_upper-2.ensures
