-- `recurrence_set::months::one_day_set` meets its contract.
use Rattle.recurrence_set.proofs.DaySets.{no-day, one-day}
use native.Mathlib.Omega.{arith}
use Rattle.recurrence_set.proofs.months.one_day_set.Goals as goal
use Rattle.recurrence_set.proofs.months.one_day_set.Goals.{then-v-lt1-via-then-v-lt1, then-v-lt1-via-else-v-lt1+then-v-gt31}

pub returns-then-v-lt1 : goal.returns-then-v-lt1
returns-then-v-lt1 c = elim c.then-v-lt1.branch [
  | then-v-lt1-via-then-v-lt1 w ↦ no-day _ (λ k h e. omega arith)
  | then-v-lt1-via-else-v-lt1+then-v-gt31 w ↦ no-day _ (λ k h e. omega arith)
]

pub returns : goal.returns
returns c = one-day _ (omega arith) (omega arith)
