-- `recurrence_set::sets::turned` meets its contract.
use native.Mathlib.Omega.{arith}
use Rattle.recurrence_set.proofs.FiveWeeks.{front-small, power-there, turned_none, turned-day}
use Rattle.recurrence_set.proofs.sets.turned.Goals as goal

pub returns-then-set-eq0 : goal.returns-then-set-eq0
returns-then-set-eq0 c = record { days = λ k h. turned_none c.args.set _ k c.if-set-eq0.true }

pub overflow_sub-front : goal.overflow_sub-front
overflow_sub-front c = omega arith

pub overflow_shl-front : goal.overflow_shl-front
overflow_shl-front c = omega arith

pub overflow_sub-front-2 : goal.overflow_sub-front-2
overflow_sub-front-2 c = power-there c.args.w c.requires

pub overflow_mul-front : goal.overflow_mul-front
overflow_mul-front c = omega (arith, front-small c.args.w c.requires)

pub overflow_mul-back : goal.overflow_mul-back
overflow_mul-back c = omega arith

pub overflow_sub-back : goal.overflow_sub-back
overflow_sub-back c = front-small c.args.w c.requires

pub overflow_shr-result : goal.overflow_shr-result
overflow_shr-result c = omega arith

pub overflow_sub-result : goal.overflow_sub-result
overflow_sub-result c = omega arith

pub overflow_shl-result : goal.overflow_shl-result
overflow_shl-result c = omega arith

pub returns : goal.returns
returns c = record { days = λ k h. turned-day c.args.set c.args.w k c.requires h }
