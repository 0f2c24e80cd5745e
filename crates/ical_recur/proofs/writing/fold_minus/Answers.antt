-- `ical_recur::writing::fold_minus` meets its contract.
use Rattle.content.proofs.Folding.{none}
use Rattle.octets.specs.Decimal.{minus_if}
use Rattle.ical_recur.proofs.writing.fold_minus.Goals as goal

pub returns-then-negative : goal.returns-then-negative
unfolding minus_if
returns-then-negative c = rw c.if-negative.true c.fold_octet.ensures

pub returns : goal.returns
returns c = unfold minus_if in rw c.if-negative.false none
