-- There are no more cases than octets.
use Rattle.std.proofs.Common.{◌-◌, ◌≤◌, length}
use Rattle.layer_cases.proofs.run_all.Given as goal

abbrev pub invariant-loop-at : goal.invariant-loop-at
invariant-loop-at g l = l.n ≤ l.at

abbrev pub decreases-loop-at : goal.decreases-loop-at
decreases-loop-at g l = length l.text - l.at
