-- `recurrence_set::first_from` meets its contract: the search tells the first place that meets the rule, if there is one and it lies within the places.
use Rattle.recurrence_set.proofs.Due.{nothing-next}
use native.Mathlib.Omega.{arith}
use Rattle.recurrence_set.proofs.first_from.Goals as goal

pub returns-in_err-found : goal.returns-in_err-found
returns-in_err-found c = rw c.from_residual.ensures (λ h l. c.in_err-found.ensures h l)

pub overflow_cast-result : goal.overflow_cast-result
overflow_cast-result c = omega arith

pub returns-then-found-series : goal.returns-then-found-series
returns-then-found-series c = λ h l. (c.in_ok-found.ensures h l, c.if-found-series.true)

pub returns-else-found-series : goal.returns-else-found-series
returns-else-found-series c = λ h l. nothing-next _ _ _ _ c.if-found-series.false (c.in_ok-found.ensures h l)
