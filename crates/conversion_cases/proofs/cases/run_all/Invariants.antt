-- There are no more cases than octets.
use Rattle.std.proofs.Common.{◌-◌, ◌≤◌, length}
use Rattle.conversion_cases.proofs.cases.run_all.Given as goal

abbrev pub invariant-loop-i : goal.invariant-loop-i
invariant-loop-i g l = l.n ≤ l.i

abbrev pub decreases-loop-i : goal.decreases-loop-i
decreases-loop-i g l = length l.index - l.i
