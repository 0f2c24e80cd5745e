-- `ical_properties::params::may_return` meets its contract.
use Prim.Native.Nat.{◌-◌}
use mathlib.Core.Path.{◌≡◌}
use lib.ListN.{length}
use Rattle.octets.specs.Basics.{all}
use Rattle.tape.specs.Decode.{members_at}
use Rattle.content.specs.Parameters.{may_return}
use Rattle.conversion_theory.specs.Skeleton.{params_from}
use Rattle.ical_properties.proofs.params.may_return.Given as goal

abbrev pub invariant-loop-at : goal.invariant-loop-at
invariant-loop-at l = all may_return (params_from (members_at l.t l.i)) ≡ all may_return (params_from (members_at l.t l.at))

abbrev pub decreases-loop-at : goal.decreases-loop-at
decreases-loop-at l = length l.t - l.i
