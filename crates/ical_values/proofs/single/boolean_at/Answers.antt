-- `ical_values::single::boolean_at` meets its contract.
use Rattle.ical_values.proofs.Places.{false-value, true-value, no-boolean-value}
use Rattle.octets.proofs.Pen.{front_same}
use Rattle.content.proofs.Folding.{as-folded}
use native.Mathlib.Omega.{arith}
use mathlib.Core.Path.{sym, ◌∙◌}
use Rattle.ical_values.proofs.single.boolean_at.Goals as goal

pub returns-in-1 : goal.returns-in-1
returns-in-1 c = let v = false-value _ _ (sym c.tag.ensures ∙ c.in-1.is) in
    (v.0, as-folded c.fold_all.ensures v.1, c.behind-e.ensures)

pub returns-in-2 : goal.returns-in-2
returns-in-2 c = let v = true-value _ _ (sym c.tag.ensures ∙ c.in-2.is) in
    (v.0, as-folded c.fold_all-in-2.ensures v.1, c.behind-e.ensures)

pub returns-in_default : goal.returns-in_default
returns-in_default c = (no-boolean-value _ _ (λ z. omega arith) (λ z. omega arith), front_same)
