-- `ical_values::leaves::write_end` meets its contract.
use Rattle.ical_values.proofs.Arrays.{end-moment, end-forward, end-other}
use Rattle.octets.proofs.Pen.{front-wrote}
use Rattle.content.proofs.Folding.{then, as-folded}
use mathlib.Core.Path.{sym, ◌∙◌}
use Rattle.ical_values.proofs.leaves.write_end.Goals as goal

pub returns-then-is_extended : goal.returns-then-is_extended
returns-then-is_extended c = let e = end-moment _ (sym c.is_extended.ensures ∙ c.if-is_extended.true) in
    (e.0, then c.fold_octet-q.ensures (as-folded c.fold_basic.ensures e.1))

pub returns-then-is_forward : goal.returns-then-is_forward
returns-then-is_forward c = let e = end-forward _ (sym c.is_extended.ensures ∙ c.if-is_extended.false) (sym c.is_forward.ensures ∙ c.if-is_forward.true) in
    (e.0, then c.fold_octet-q.ensures (as-folded c.fold_upper.ensures e.1))

pub returns : goal.returns
returns c = (end-other _ (sym c.is_extended.ensures ∙ c.if-is_extended.false) (sym c.is_forward.ensures ∙ c.if-is_forward.false), front-wrote c.fold_octet-q.ensures.wrote)
