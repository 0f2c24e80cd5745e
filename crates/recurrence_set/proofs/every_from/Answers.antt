-- `recurrence_set::every_from` meets its contract.
use native.Mathlib.Omega.{arith}
use Rattle.recurrence_set.proofs.Every.{left_over, every_here, every-next}
use Rattle.recurrence_set.proofs.every_from.Goals as goal

pub nonzero_rem-out : goal.nonzero_rem-out
nonzero_rem-out c = omega (arith, c.args.stepped.steps)

pub returns-then-out-eq0 : goal.returns-then-out-eq0
returns-then-out-eq0 c = every_here _ _ _ c.if-out-eq0.true

pub overflow_sub-result : goal.overflow_sub-result
overflow_sub-result c = left_over _ _ c.args.stepped.steps

pub returns : goal.returns
returns c = every-next _ _ _ c.args.stepped.steps c.requires c.if-out-eq0.false
