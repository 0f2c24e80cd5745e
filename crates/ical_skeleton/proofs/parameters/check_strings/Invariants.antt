-- `ical_skeleton::parameters::check_strings` meets its contract.
use Prim.Native.Nat.{◌-◌}
use lib.ListN.{length}
use Rattle.conversion_theory.specs.Skeleton.{is_json_string}
use Rattle.ical_skeleton.proofs.Lists.{Passing}
use Rattle.ical_skeleton.proofs.parameters.check_strings.Given as goal

abbrev pub invariant-loop-at : goal.invariant-loop-at
invariant-loop-at l = Passing is_json_string l.t l.initial.i l.i

abbrev pub decreases-loop-at : goal.decreases-loop-at
decreases-loop-at l = length l.t - l.i
