-- `tape::walking::leave` meets its contract. The loop's invariant: behind as many groups as ends are due lies what lies behind the group at `at`.
use Prim.Native.Nat.{◌+◌, ◌-◌, ◌≤◌}
use mathlib.Core.Path.{◌≡◌}
use lib.ListN.{length}
use Rattle.tape.specs.Decode.{pop, view}
use Rattle.tape.proofs.Walks.{pops}
use Rattle.tape.proofs.walking.leave.Given as goal

abbrev pub invariant-loop-i : goal.invariant-loop-i
invariant-loop-i l = (1 ≤ l.ends) × (l.ends ≤ l.i + 1) × (l.at ≤ l.i) × (pops l.ends (view l.t l.i) ≡ pop (view l.t l.at))

abbrev pub decreases-loop-i : goal.decreases-loop-i
decreases-loop-i l = length l.t - l.i
