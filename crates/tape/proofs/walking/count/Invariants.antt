-- `tape::walking::count` meets its contract.
use Prim.Native.Nat.{◌-◌}
use Rattle.tape.proofs.Walks.{Counting}
use Rattle.tape.proofs.walking.count.Given as goal

abbrev pub invariant-loop-n : goal.invariant-loop-n
invariant-loop-n l = Counting l.t l.at l.most l.i l.n

abbrev pub decreases-loop-n : goal.decreases-loop-n
decreases-loop-n l = l.most - l.n
