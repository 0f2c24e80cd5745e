-- `ical_recur::writing::fold_integer` meets its contract.
use Rattle.ical_recur.proofs.Integers.{integer-text}
use Rattle.content.proofs.Folding.{then, as-folded}
use Rattle.ical_recur.proofs.writing.fold_integer.Goals as goal

pub returns : goal.returns
returns c = as-folded (then c.fold_minus-q.ensures c.fold_all.ensures) (integer-text _ _ _ c.is_negative.ensures c.sign_length-sign.ensures.1 c.leading_zeros-zeros.ensures.1)
