-- `ical_skeleton::parameters::check_parameters` meets its contract.
use Prim.Native.Nat.{◌-◌}
use lib.ListN.{length}
use Rattle.ical_skeleton.proofs.Names.{Naming}
use Rattle.ical_skeleton.proofs.parameters.check_parameters.Given as goal

abbrev pub invariant-loop-at : goal.invariant-loop-at
invariant-loop-at l = Naming l.t l.initial.i l.i

abbrev pub decreases-loop-at : goal.decreases-loop-at
decreases-loop-at l = length l.t - l.i
