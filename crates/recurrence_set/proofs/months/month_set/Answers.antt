-- `recurrence_set::months::month_set` meets its contract.
use Rattle.recurrence_set.proofs.DaySets.{one_shifted, marks-only}
use lib.Pow.{pow_pos}
use native.Mathlib.Omega.{arith}
use Rattle.recurrence_set.proofs.months.month_set.Goals as goal

pub nonzero_rem-result : goal.nonzero_rem-result
nonzero_rem-result c = let e = one_shifted c.args.month.days (omega (arith, c.args.month.few)) in let p = pow_pos c.args.month.days in omega arith

pub returns : goal.returns
returns c = marks-only _ _ _ c.args.month.few c.serving_set.ensures
