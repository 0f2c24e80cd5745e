-- `types::rows::lay_rows` meets its contract.
use Prim.Native.Nat.{◌-◌}
use lib.ListN.{length}
use Rattle.types.proofs.Progress.{Progress}
use Rattle.types.proofs.rows.lay_rows.Given as goal

abbrev pub invariant-loop-from : goal.invariant-loop-from
invariant-loop-from l = Progress l.hex l.initial.rows l.rows l.from l.at l.count

abbrev pub decreases-loop-from : goal.decreases-loop-from
decreases-loop-from l = length l.hex - l.from
