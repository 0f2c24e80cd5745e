-- `recurrence_set::months::months_from` meets its contract. The loop goes from month to month: nothing was to be found before the day that it is at.
use Prim.Native.Nat.{◌-◌, ◌≤◌}
use Rattle.recurrence_set.proofs.MonthSearch.{Searching}
use Rattle.recurrence_set.proofs.months.months_from.Given as goal

abbrev pub invariant-loop-at : goal.invariant-loop-at
invariant-loop-at l = (l.past ≤ 30) × Searching l.rule l.month l.skip l.places l.v l.at l.past

abbrev pub decreases-loop-at : goal.decreases-loop-at
decreases-loop-at l = 120000 - l.at
